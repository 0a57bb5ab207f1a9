-- What the steps of a copy leave of its source and its target.
use Rattle.std.specs.Prelude.{◌≡◌, ◌⊎◌, ℕ, ◌+◌, ◌≤◌, Bool, true, false, IsTrue, is_some, List, length, Option, None, Some, Result}
use Rattle.std.specs.Prelude.{OnOk, IfOk}
use Rattle.std.specs.FinMap as map
use Rattle.capability.specs.declared.Uid.{Uid}
use Rattle.passive_store.specs.Kept.{Layout, IsEject, IsBehind, bodies_after}
use Rattle.twin_store.specs.Ranks.{IsBefore}
use Rattle.twin_store.specs.declared.served.TwinRefusal.{TwinRefusal}
use Rattle.twin_store.specs.Vouched.{Bodies, SameEjects, generation_in}
use Rattle.twin_store.specs.Serving.{Same}
use Rattle.twin_store.specs.Sides.{SideSeen, is_in_use, bodies_on, IsKept, IsSound, Bears, Bore, IsCopying, AllClear}

-- the store of a disk in use keeps what is found on it after a crash
pub record IsAtRest (layout : Layout) (node : ℕ) (side : SideSeen) : Type 0 where
  pub used : is_in_use side ≡ true
  pub kept : IsKept layout node side

-- a map with the same under the uids of Ejects as another, and the same generation
pub record IsAlike (node : ℕ) (old m : Bodies) : Type 0 where
  pub same : SameEjects node m old
  pub generation_is : generation_in node m ≡ generation_in node old

-- The target is cleared.
pub record Clears {T : Type 0} (layout : Layout) (all : Bool) (node : ℕ) (result : Result T TwinRefusal)
    (source old new : SideSeen) : Type 0 where
  pub bore : IsAtRest layout node old
      → Bore layout node (IsCopying all node (generation_in node (bodies_on old)) (bodies_on source) (bodies_on old)) result new
  pub clear : OnOk result (is_in_use new ≡ true → AllClear all node (bodies_on source) (bodies_on new))

-- A look for a body in the target.
pub record LooksFor (layout : Layout) (node : ℕ) (uid : Uid) (body : List ℕ) (result : Result Bool TwinRefusal)
    (old new : SideSeen) : Type 0 where
  pub bore : IsAtRest layout node old → Bore layout node (λ m. Same m (bodies_on old)) result new
  pub there : IfOk result (λ is. is ≡ true → is_in_use old ≡ true → map.get (bodies_on old) uid ≡ Some body)

-- A body is put in the target, where it is not kept already.
pub record Fills {T : Type 0} (layout : Layout) (node : ℕ) (uid : Uid) (body : List ℕ) (result : Result T TwinRefusal)
    (old new : SideSeen) : Type 0 where
  pub bore : IsAtRest layout node old
      → Bore layout node (λ m. Same m (bodies_on old) ⊎ Same m (bodies_after uid (Some body) (bodies_on old))) result new
  pub put : length body ≤ 262144 → IsAtRest layout node old
      → OnOk result (is_in_use new ≡ true → Same (bodies_on new) (bodies_after uid (Some body) (bodies_on old)))

-- the map with what another has under a uid
abbrev pub taken : Uid → Bodies → Bodies → Bodies
taken uid source m = bodies_after uid (map.get source uid) m

-- What the source keeps under a uid is put in the target.
pub record TakesOne {T : Type 0} (layout : Layout) (node : ℕ) (uid : Uid) (result : Result T TwinRefusal)
    (source new old to : SideSeen) : Type 0 where
  pub source_stays : IsAtRest layout node source → Bore layout node (λ m. Same m (bodies_on source)) result new
  pub target : is_in_use source ≡ true → IsAtRest layout node old
      → Bore layout node (λ m. Same m (bodies_on old) ⊎ Same m (taken uid (bodies_on source) (bodies_on old))) result to
  pub put : is_in_use source ≡ true → IsAtRest layout node old → IsSound node (bodies_on source)
      → IsTrue (is_some (map.get (bodies_on source) uid))
      → OnOk result (is_in_use new ≡ true → is_in_use to ≡ true → Same (bodies_on to) (taken uid (bodies_on source) (bodies_on old)))
  -- from a source out of use nothing is taken
  pub out : is_in_use source ≡ false → to ≡ old

-- where the source keeps nothing, this map has nothing
abbrev pub HasNoMore : ℕ → Bodies → Bodies → Type 0
HasNoMore node source m = (uid : Uid) → IsEject node uid → map.get source uid ≡ None → map.get m uid ≡ None

-- What the source keeps is put in the target.
pub record CopiesAll {T : Type 0} (layout : Layout) (node : ℕ) (result : Result T TwinRefusal) (source new old to : SideSeen) : Type 0 where
  pub source_stays : IsAtRest layout node source → Bore layout node (λ m. Same m (bodies_on source)) result new
  pub target : IsAtRest layout node source → (all : Bool) (generation : ℕ) (from : Bodies)
      → Bears layout node (IsCopying all node generation (bodies_on source) from) old
      → Bore layout node (IsCopying all node generation (bodies_on source) from) result to
  pub same : IsAtRest layout node source → IsSound node (bodies_on source) → (is_in_use old ≡ true → IsKept layout node old)
      → (is_in_use old ≡ true → HasNoMore node (bodies_on source) (bodies_on old))
      → OnOk result (is_in_use new ≡ true → is_in_use to ≡ true → SameEjects node (bodies_on to) (bodies_on source))

-- A whole copy: what is found on the target and kept there is on its way, and behind it the same as on the source.
pub record IsCopied {T : Type 0} (layout : Layout) (all : Bool) (node : ℕ) (result : Result T TwinRefusal)
    (source target new to : SideSeen) : Type 0 where
  pub source_stays : Bore layout node (λ m. Same m (bodies_on source)) result new
  pub on_its_way : Bore layout node (IsCopying all node (generation_in node (bodies_on target)) (bodies_on source) (bodies_on target))
      result to
  pub same : OnOk result (is_in_use new ≡ true → is_in_use to ≡ true → SameEjects node (bodies_on to) (bodies_on source))

-- A disk that is to be filled gets a generation, where it has none: 0, which says the same, so that its room is told.
pub record BeginsFilling {T : Type 0} (layout : Layout) (node : ℕ) (result : Result T TwinRefusal) (old new : SideSeen) : Type 0 where
  pub bore : IsAtRest layout node old → Bore layout node (IsAlike node (bodies_on old)) result new

-- a uid has the next number behind another one
abbrev pub IsNextNumber : Option Uid → Option Uid → Type 0
IsNextNumber (Some one) (Some two) = (two.node ≡ one.node) × (two.epoch ≡ one.epoch) × (two.serial ≡ one.serial + 1)
IsNextNumber _ _ = ⊥

-- nothing is kept under the uids of Ejects behind this one, or under any, and before that one
abbrev pub IsNoneBetween : ℕ → SideSeen → Option Uid → Option Uid → Type 0
IsNoneBetween node side from next = (uid : Uid) → IsEject node uid → IsBehind from uid → IsBefore next uid → map.get (bodies_on side) uid ≡ None

-- A look at what both disks keep under one uid.
pub record LooksAtBoth (layout : Layout) (node : ℕ) (uid : Uid) (result : Result Bool TwinRefusal) (source new old to : SideSeen) : Type 0 where
  pub source_stays : IsAtRest layout node source → Bore layout node (λ m. Same m (bodies_on source)) result new
  pub target_stays : IsAtRest layout node old → Bore layout node (λ m. Same m (bodies_on old)) result to
  pub alike : IfOk result (λ is. is ≡ true → is_in_use source ≡ true → is_in_use old ≡ true
      → map.get (bodies_on old) uid ≡ map.get (bodies_on source) uid)

-- A look at all that both disks keep of Ejects.
pub record Compares (layout : Layout) (node : ℕ) (result : Result Bool TwinRefusal) (source new old to : SideSeen) : Type 0 where
  pub source_stays : Bore layout node (λ m. Same m (bodies_on source)) result new
  pub target_stays : Bore layout node (λ m. Same m (bodies_on old)) result to
  pub alike : IfOk result (λ is. is ≡ true → is_in_use new ≡ true → is_in_use to ≡ true
      → SameEjects node (bodies_on old) (bodies_on source))
