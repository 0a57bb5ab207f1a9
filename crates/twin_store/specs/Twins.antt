-- What is seen of a twin, and what each call leaves of it.
use Rattle.std.specs.Prelude.{◌≡◌, ◌⊎◌, ◌↔◌, ℕ, ◌+◌, ◌≤◌, ◌<◌, ◌&&◌, max, nat_lt, unwrap_or, Bool, true, false, IsTrue, List}
use Rattle.std.specs.Prelude.{Option, None, Some, Result, Ok, Err, OnOk, OnErr, IfErr, IfOk}
use Rattle.std.specs.FinMap as map
use Rattle.capability.specs.declared.Uid.{Uid}
use Rattle.eden_disk.specs.Calls.{Counts, one_more}
use Rattle.eden_disk.specs.Told.{Told, contents}
use Rattle.passive_store.specs.Kept.{Layout}
use Rattle.passive_store.specs.Layout.{IsLayout}
use Rattle.passive_store.specs.Seen.{Seen, DiskSeen, Asked}
use Rattle.twin_store.specs.declared.served.TwinRefusal.{TwinRefusal}
use Rattle.twin_store.specs.declared.served.TwinRefusal.TheVariants.{Lost, Full, GenerationsSpent}
use Rattle.twin_store.specs.declared.twin.TwinStore.{TwinStore}
use Rattle.twin_store.specs.Vouched.{Bodies, SameEjects, changed_by, generation_in, generation_of, bodies_found, Vow, IsHeld, IsOwnChange}
use Rattle.twin_store.specs.Vouched.{IsVouched}
use Rattle.twin_store.specs.Footings.{Finds, IsMapped, IfMapped, AreVouched}
use Rattle.twin_store.specs.Serving.{IsPassedOn, IfFound, Same}
use Rattle.twin_store.specs.Sides.{SideSeen, InUse, Away, side_seen, is_in_use, disk_of, bodies_on, IsSideReady, IsReadyBy, IsKept, IsSound}
use Rattle.twin_store.specs.Sides.{SideGoes, SideArms, StopsBy, StopsOne, IsFullOn, HasLeft}
use Rattle.eden_disk.specs.declared.disk.Arm.{Arm}
use Rattle.twin_store.specs.Sides.{IsOpenedBy, IsLostDisk, FitsOrFailed, SideMoves, Bore}
use Rattle.twin_store.specs.Copies.{IsAtRest}

-- What is seen of a twin.
pub record TwinSeen : Type 0 where
  pub node : ℕ
  -- the greatest generation that was read or put
  pub generation : ℕ
  pub first : SideSeen
  pub second : SideSeen

abbrev pub pair : ℕ → ℕ → SideSeen → SideSeen → TwinSeen
pair node generation first second = record { node = node; generation = generation; first = first; second = second }

abbrev pub twin_seen : {S D : Type 0} → (S → Seen) → (D → DiskSeen) → TwinStore S D → TwinSeen
twin_seen seen look t = pair t.node t.generation (side_seen seen look t.first) (side_seen seen look t.second)

-- what the disks of a twin tell
abbrev pub told_first : TwinSeen → Told
told_first t = (disk_of t.first).told

abbrev pub told_second : TwinSeen → Told
told_second t = (disk_of t.second).told

-- a disk is in use
abbrev pub IsSomeUsed : TwinSeen → Type 0
IsSomeUsed t = (is_in_use t.first ≡ true) ⊎ (is_in_use t.second ≡ true)

-- A disk of a node is in use, and each store in use is ready.
pub record IsTwinReady (t : TwinSeen) : Type 0 where
  pub number : (1 ≤ t.node) × (t.node ≤ 8)
  pub first : IsSideReady t.node t.first
  pub second : IsSideReady t.node t.second
  pub some : IsSomeUsed t

-- the stores in use of both disks are ready
pub record AreReady (t : TwinSeen) : Type 0 where
  pub number : (1 ≤ t.node) × (t.node ≤ 8)
  pub first : IsSideReady t.node t.first
  pub second : IsSideReady t.node t.second

-- What each call leaves of a twin.
pub record TwinGoes {T : Type 0} (result : Result T TwinRefusal) (old new : TwinSeen) : Type 0 where
  pub node : new.node ≡ old.node
  pub first : SideGoes old.first new.first
  pub second : SideGoes old.second new.second
  pub ready : OnOk result (IsTwinReady new)
  pub lost : IfErr result (λ e. e ≡ Lost → (is_in_use new.first ≡ false) × (is_in_use new.second ≡ false))
  -- Stopped comes only where the count of stops of a disk rose
  pub stopped : StopsOne result (disk_of old.first) (disk_of new.first) (disk_of old.second) (disk_of new.second)

-- Some calls on both disks of a twin, which may both leave use.
pub record TwinMoves {T : Type 0} (result : Result T TwinRefusal) (old new : TwinSeen) : Type 0 where
  pub node : new.node ≡ old.node
  pub only : IfErr result IsPassedOn
  pub first : SideGoes old.first new.first
  pub second : SideGoes old.second new.second
  pub stopped : StopsOne result (disk_of old.first) (disk_of new.first) (disk_of old.second) (disk_of new.second)
  pub ready : OnOk result (AreReady new)

-- 1. What is held

-- A store in use keeps this under the uids of Ejects, and this generation; and so does each image that a crash may leave of its disk.
pub record SideHas (layout : Layout) (node generation : ℕ) (held : Bodies) (side : SideSeen) : Type 0 where
  pub same : SameEjects node (bodies_on side) held
  pub generation_is : generation_in node (bodies_on side) ≡ generation
  pub kept : IsKept layout node side

-- Of the disks of a twin that are in use the first has one map, the second another, and both the twin's generation.
pub record TwinHas (layout : Layout) (one two : Bodies) (t : TwinSeen) : Type 0 where
  pub generation : 1 ≤ t.generation
  pub first : is_in_use t.first ≡ true → SideHas layout t.node t.generation one t.first
  pub second : is_in_use t.second ≡ true → SideHas layout t.node t.generation two t.second

-- What is held is held on each disk in use.
abbrev pub Holds : Layout → Bodies → TwinSeen → Type 0
Holds layout held t = TwinHas layout held held t

-- A disk out of use gives way at the next opening: the first has a lesser generation, the second none that is greater, or no map.
pub record IsSure (layout : Layout) (t : TwinSeen) : Type 0 where
  pub first : is_in_use t.first ≡ false → Finds layout t.node (IfMapped (λ m. generation_in t.node m < t.generation)) (told_first t)
  pub second : is_in_use t.second ≡ false → Finds layout t.node (IfMapped (λ m. generation_in t.node m ≤ t.generation)) (told_second t)

abbrev pub vow : ℕ → Bodies → Option Asked → Bool → Bool → Vow
vow node held begun first second = record { node = node; held = held; begun = begun; first = first; second = second }

-- What two disks vouch for behind a refused change of what was held: that, with or without the change.
abbrev pub LeavesVouched : Layout → Bodies → Option Asked → TwinSeen → Type 0
LeavesVouched layout held c t =
    AreVouched layout (vow t.node held c (is_in_use t.first) (is_in_use t.second)) (told_first t) (told_second t)

-- 2. Changes and looks

-- A disk in use has no room for the change, or a disk left use, so that the other had to take a generation before it.
abbrev pub IsFullTwin : Bool → Layout → Option Asked → TwinSeen → TwinSeen → Type 0
IsFullTwin tells layout c old new =
    (IsFullOn tells layout c old.first ⊎ IsFullOn tells layout c old.second) ⊎ (HasLeft old.first new.first ⊎ HasLeft old.second new.second)

-- A disk left use in a call and the other one did not, so that its generation was to be raised; and it is the greatest.
abbrev pub IsSpent : TwinSeen → TwinSeen → Type 0
IsSpent old new = (old.generation ≡ 4294967295)
    × ((HasLeft old.first new.first × (is_in_use new.second ≡ true)) ⊎ (HasLeft old.second new.second × (is_in_use new.first ≡ true)))

-- GenerationsSpent is answered exactly where this is so.
abbrev pub SpentWhere : {T : Type 0} → Result T TwinRefusal → Type 0 → Type 0
SpentWhere (Ok value) P = P → ⊥
SpentWhere (Err e) P = (e ≡ GenerationsSpent) ↔ P

-- A change of what both disks keep, or none.
pub record TwinChanges {T : Type 0} (tells : Bool) (layout : Layout) (c : Option Asked) (result : Result T TwinRefusal)
    (old new : TwinSeen) : Type 0 where
  pub goes : TwinGoes result old new
  pub full : IfErr result (λ e. e ≡ Full → IsFullTwin tells layout c old new)
  pub spent : SpentWhere result (IsSpent old new)
  -- behind a change that was made, what is held has it
  pub held : IsTrue tells → OnOk result ((held : Bodies) → Holds layout held old → Holds layout (changed_by c held) new)
  pub sure : IsTrue tells → OnOk result ((held : Bodies) → Holds layout held old → IsSure layout old → IsSure layout new)
  -- behind one that was refused, both disks vouch for what is held with or without it
  pub vouched : IsTrue tells → OnErr result ((held : Bodies) → Holds layout held old → IsSure layout old → LeavesVouched layout held c new)

-- A change of what the first disk keeps, where it is in use.
pub record ChangesFirst {T : Type 0} (tells : Bool) (layout : Layout) (c : Option Asked) (result : Result T TwinRefusal)
    (old new : TwinSeen) : Type 0 where
  pub goes : TwinGoes result old new
  pub full : IfErr result (λ e. e ≡ Full → IsFullTwin tells layout c old new)
  pub spent : SpentWhere result (IsSpent old new)
  -- where the first disk stays in use, the second is not called
  pub other : OnOk result (is_in_use new.first ≡ is_in_use old.first → (new.second ≡ old.second) × (new.generation ≡ old.generation))
  pub held : IsTrue tells → OnOk result ((held : Bodies) → Holds layout held old → TwinHas layout (changed_by c held) held new)
  pub sure : IsTrue tells → OnOk result ((held : Bodies) → Holds layout held old → IsSure layout old → IsSure layout new)
  pub vouched : IsTrue tells → OnErr result ((held : Bodies) → Holds layout held old → IsSure layout old → LeavesVouched layout held c new)

-- The same of the second, behind that of the first.
pub record ChangesSecond {T : Type 0} (tells : Bool) (layout : Layout) (c : Option Asked) (result : Result T TwinRefusal)
    (old new : TwinSeen) : Type 0 where
  pub goes : TwinGoes result old new
  pub full : IfErr result (λ e. e ≡ Full → IsFullOn tells layout c old.second ⊎ HasLeft old.second new.second)
  pub spent : SpentWhere result (IsSpent old new)
  pub held : IsTrue tells
      → OnOk result ((held : Bodies) → TwinHas layout (changed_by c held) held old → Holds layout (changed_by c held) new)
  pub sure : IsTrue tells
      → OnOk result ((held : Bodies) → TwinHas layout (changed_by c held) held old → IsSure layout old → IsSure layout new)
  pub vouched : IsTrue tells
      → OnErr result ((held : Bodies) → TwinHas layout (changed_by c held) held old → IsSure layout old → LeavesVouched layout held c new)

-- whether nothing was given
abbrev pub IsGone : {T : Type 0} → Result (Option T) TwinRefusal → Type 0 → Type 0
IsGone (Ok None) P = P
IsGone (Ok (Some value)) P = Unit {0}
IsGone (Err e) P = Unit {0}

-- A look at the first disk alone, where it is in use; where it fails, the second gets the next generation.
pub record LooksFirst (tells : Bool) (layout : Layout) (uid : Uid) (result : Result (Option (Option (List ℕ))) TwinRefusal)
    (old new : TwinSeen) : Type 0 where
  pub changes : TwinChanges tells layout None result old new
  pub gone : IsGone result (is_in_use new.first ≡ false)
  pub found : IsTrue tells → (held : Bodies) → Holds layout held old → IfFound result (map.get held uid)

-- A look at what both disks keep: it gives what is held.
pub record TwinGets (tells : Bool) (layout : Layout) (uid : Uid) (result : Result (Option (List ℕ)) TwinRefusal)
    (old new : TwinSeen) : Type 0 where
  pub changes : TwinChanges tells layout None result old new
  pub found : IsTrue tells → IfOk result (λ body. (held : Bodies) → Holds layout held old → body ≡ map.get held uid)

-- What a look at the generation of a disk gives: that of its map, or None where the disk is out of use.
abbrev pub IsGenerationOf : ℕ → Option ℕ → SideSeen → Type 0
IsGenerationOf node (Some n) side = n ≡ generation_in node (bodies_on side)
IsGenerationOf node None side = Unit {0}

-- whether the disk is in use, by what the look gave
abbrev pub IsUsedBy : Option ℕ → SideSeen → Type 0
IsUsedBy (Some n) side = is_in_use side ≡ true
IsUsedBy None side = is_in_use side ≡ false

-- A look at the generation of a disk.
pub record ReadsGeneration (tells : Bool) (layout : Layout) (node : ℕ) (result : Result (Option ℕ) TwinRefusal)
    (old new : SideSeen) : Type 0 where
  pub moves : SideMoves node result old new
  pub used : IfOk result (λ answer. IsUsedBy answer new)
  pub kept : IsTrue tells → is_in_use old ≡ true → Bore layout node (λ m. Same m (bodies_on old)) result new
  pub is : IsTrue tells → IfOk result (λ answer. IsGenerationOf node answer new)

-- A map with the same under the uids of Ejects as another, and its generation or the next one.
pub record IsRaised (node next : ℕ) (old m : Bodies) : Type 0 where
  pub same : SameEjects node m old
  pub generation_is : (generation_in node m ≡ generation_in node old) ⊎ (generation_in node m ≡ next)

-- A disk is given the next generation, or it is lost, or stopped, or there is no such generation.
pub record Raises (tells : Bool) (layout : Layout) (node generation : ℕ) (result : Result ℕ TwinRefusal) (old new : SideSeen) : Type 0 where
  pub goes : SideGoes old new
  pub stops : StopsBy result (disk_of old) (disk_of new)
  pub ready : IsReadyBy node result new
  pub used : OnOk result (is_in_use new ≡ true)
  pub next : IfOk result (λ n. n ≡ generation + 1)
  pub small : IfOk result (λ n. n ≤ 4294967295)
  pub lost : IfErr result (λ e. e ≡ Lost → is_in_use new ≡ false)
  pub spent : SpentWhere result ((generation ≡ 4294967295) × (is_in_use new ≡ true))
  -- each image has the Ejects that it had, and the generation that it had or the next
  pub leaves : IsTrue tells → is_in_use old ≡ true → IsKept layout node old
      → Finds layout node (IsMapped (IsRaised node (generation + 1) (bodies_on old))) (disk_of new).told
  pub has : IsTrue tells → IfOk result (λ n. SideHas layout node n (bodies_on old) new)

-- 3. Openings

-- What two disks, of which some are in use, vouch for: those in use have what they keep.
abbrev pub SidesVouched : Layout → Vow → SideSeen → SideSeen → Type 0
SidesVouched layout v (InUse a) (InUse b) =
    IsKept layout v.node (InUse a) × IsKept layout v.node (InUse b) × IsVouched v (Some a.kept.bodies) (Some b.kept.bodies)
SidesVouched layout v (InUse a) (Away e) =
    IsKept layout v.node (InUse a) × Finds layout v.node (λ y. IsVouched v (Some a.kept.bodies) y) e.told
SidesVouched layout v (Away d) (InUse b) =
    IsKept layout v.node (InUse b) × Finds layout v.node (λ x. IsVouched v x (Some b.kept.bodies)) d.told
SidesVouched layout v (Away d) (Away e) = AreVouched layout v d.told e.told

-- no disk that is out of use is said to vouch
pub record Claims (v : Vow) (t : TwinSeen) : Type 0 where
  pub node : v.node ≡ t.node
  pub own : IsOwnChange v.node v.begun
  pub first : v.first ≡ true → is_in_use t.first ≡ true
  pub second : v.second ≡ true → is_in_use t.second ≡ true

-- a disk vouches
abbrev pub IsCovered : Vow → Type 0
IsCovered v = (v.first ≡ true) ⊎ (v.second ≡ true)

-- Some calls of an opening: what both disks vouch for before them, they vouch for behind them.
pub record StepsVouched {T : Type 0} (layout : Layout) (result : Result T TwinRefusal) (old new : TwinSeen) : Type 0 where
  pub told : (v : Vow) → Claims v new → SidesVouched layout v old.first old.second → AreVouched layout v (told_first new) (told_second new)
  pub sides : OnOk result ((v : Vow) → Claims v new → SidesVouched layout v old.first old.second
      → SidesVouched layout v new.first new.second)

-- The disks in use have no generation above the twin's; where both are, they have the same under the uids of Ejects, and its generation.
pub record IsLevel (layout : Layout) (t : TwinSeen) : Type 0 where
  pub first : is_in_use t.first ≡ true → IsKept layout t.node t.first × (generation_in t.node (bodies_on t.first) ≤ t.generation)
  pub second : is_in_use t.second ≡ true → IsKept layout t.node t.second × (generation_in t.node (bodies_on t.second) ≤ t.generation)
  pub both : is_in_use t.first ≡ true → is_in_use t.second ≡ true
      → (held : Bodies) × TwinHas layout held held t

-- What each disk in use keeps is what is found on it after a crash, and is what the layout lets images keep.
pub record AreAtRest (layout : Layout) (t : TwinSeen) : Type 0 where
  pub first : is_in_use t.first ≡ true → IsKept layout t.node t.first × IsSound t.node (bodies_on t.first)
  pub second : is_in_use t.second ≡ true → IsKept layout t.node t.second × IsSound t.node (bodies_on t.second)

-- The generations of both disks were read, and the twin's is the greatest.
pub record AreRead (t : TwinSeen) (first second : Option ℕ) : Type 0 where
  pub first_used : IsUsedBy first t.first
  pub second_used : IsUsedBy second t.second
  pub first_is : IsGenerationOf t.node first t.first
  pub second_is : IsGenerationOf t.node second t.second
  pub greatest : t.generation ≡ max (unwrap_or first 0) (unwrap_or second 0)

-- Of both disks, as far as they are in use, what is kept is as it was.
pub record IsReadOnly (old new : TwinSeen) : Type 0 where
  pub node : new.node ≡ old.node
  pub first : is_in_use new.first ≡ true → Same (bodies_on new.first) (bodies_on old.first)
  pub second : is_in_use new.second ≡ true → Same (bodies_on new.second) (bodies_on old.second)

-- A look at the generations of both disks.
pub record ReadsBoth (layout : Layout) (result : Result (Option ℕ × Option ℕ) TwinRefusal) (old new : TwinSeen) : Type 0 where
  pub steps : StepsVouched layout result old new
  pub rest : OnOk result (AreAtRest layout new)
  pub read : IfOk result (λ r. AreRead new r.0 r.1)
  pub stays : OnOk result (IsReadOnly old new)

-- Both disks are in use, and the generation of one is less than that of the other, which is the twin's.
pub record IsLess (layout : Layout) (node generation : ℕ) (lesser right : SideSeen) : Type 0 where
  pub lesser_rests : IsAtRest layout node lesser
  pub right_rests : IsAtRest layout node right
  pub sound : IsSound node (bodies_on right)
  pub less : generation_in node (bodies_on lesser) < generation_in node (bodies_on right)
  pub greatest : generation_in node (bodies_on right) ≡ generation

-- Both disks are in use, of one generation.
pub record IsEven (layout : Layout) (node generation : ℕ) (first second : SideSeen) : Type 0 where
  pub first_rests : IsAtRest layout node first
  pub second_rests : IsAtRest layout node second
  pub sound : IsSound node (bodies_on first)
  pub first_is : generation_in node (bodies_on first) ≡ generation
  pub second_is : generation_in node (bodies_on second) ≡ generation

-- The second disk was brought to the first's values: those in use have the twin's generation, and where both are, the same.
pub record IsBrought (layout : Layout) (t : TwinSeen) : Type 0 where
  pub first : is_in_use t.first ≡ true → IsKept layout t.node t.first × (generation_in t.node (bodies_on t.first) ≡ t.generation)
  pub second : is_in_use t.second ≡ true → IsKept layout t.node t.second × (generation_in t.node (bodies_on t.second) ≡ t.generation)
  pub same : is_in_use t.first ≡ true → is_in_use t.second ≡ true → SameEjects t.node (bodies_on t.second) (bodies_on t.first)

-- The disks were made level, as far as both stay in use.
pub record Levels {T : Type 0} (layout : Layout) (result : Result T TwinRefusal) (old new : TwinSeen) : Type 0 where
  pub steps : StepsVouched layout result old new
  pub level : OnOk result (IsLevel layout new)

-- Where one disk is in use alone, it has a generation that the other gives way to.
pub record Agrees {T : Type 0} (layout : Layout) (result : Result T TwinRefusal) (old new : TwinSeen) : Type 0 where
  pub told : (v : Vow) → Claims v new → SidesVouched layout v old.first old.second → AreVouched layout v (told_first new) (told_second new)
  pub holds : OnOk result ((held : Bodies) × Holds layout held new)
  pub sure : OnOk result (is_in_use new.first ≡ true → is_in_use new.second ≡ true → IsSure layout new)
  pub covered : OnOk result ((v : Vow) → Claims v new → SidesVouched layout v old.first old.second → IsCovered v
      → IsSure layout new × SidesVouched layout v new.first new.second)

-- one disk is in use, and the other is not
abbrev pub IsAlone : TwinSeen → Type 0
IsAlone t = ((is_in_use t.first ≡ true) × (is_in_use t.second ≡ false)) ⊎ ((is_in_use t.first ≡ false) × (is_in_use t.second ≡ true))

-- a generation as it was, or the first one in place of none
abbrev pub IsGenerationKept : ℕ → ℕ → Type 0
IsGenerationKept old new = (new ≡ old) ⊎ ((old ≡ 0) × (new ≡ 1))

-- No disk that is in use had a greater generation than the twin, and neither it nor the first one is less.
pub record Gathers (old new : TwinSeen) : Type 0 where
  pub first : is_in_use new.first ≡ true → generation_in old.node (bodies_on old.first) ≤ new.generation
  pub second : is_in_use new.second ≡ true → generation_in old.node (bodies_on old.second) ≤ new.generation
  pub within : new.generation
      ≤ max 1 (max (generation_in old.node (bodies_on old.first)) (generation_in old.node (bodies_on old.second)))

-- A disk that is left alone gets the next generation, where there is one.
pub record RaisesAlone {T : Type 0} (result : Result T TwinRefusal) (old new : TwinSeen) : Type 0 where
  pub spent : IfErr result (λ e. e ≡ GenerationsSpent → (old.generation ≡ 4294967295) × IsAlone new)
  pub next : OnOk result (IsAlone new → (new.generation ≡ old.generation + 1) × (new.generation ≤ 4294967295))

-- The same behind a copy: so the generation of a disk that is left alone was not the greatest, or that of a disk was.
pub record AgreesAlone {T : Type 0} (result : Result T TwinRefusal) (old new : TwinSeen) : Type 0 where
  pub spent : IfErr result (λ e. e ≡ GenerationsSpent
      → 4294967295 ≤ max (generation_in old.node (bodies_on old.first)) (generation_in old.node (bodies_on old.second)))
  pub first : OnOk result (IsAlone new → is_in_use new.first ≡ true → generation_in old.node (bodies_on old.first) < 4294967295)
  pub second : OnOk result (IsAlone new → is_in_use new.second ≡ true → generation_in old.node (bodies_on old.second) < 4294967295)

-- the generation that an image has: that of its map, or 0
abbrev pub generation_on : Layout → ℕ → DiskSeen → ℕ
generation_on layout node d = generation_of node (bodies_found (layout.map_of node (contents d.told).now))

-- A disk was opened, and met no fault.
pub record IsSpared (tells : Bool) (layout : Layout) (node : ℕ) (old new : DiskSeen) : Type 0 where
  pub faults : new.counts.faults ≡ old.counts.faults
  pub mapped : IsTrue tells → (m : Bodies) × (bodies_found (layout.map_of node (contents old.told).now) ≡ Some m)

-- An opening was refused since one disk was lost, the other was not, and the greater of their generations is the greatest there is.
pub record IsSpentOpening (tells : Bool) (layout : Layout) (node : ℕ) (first one second two : DiskSeen) : Type 0 where
  pub alone : (IsSpared tells layout node first one × IsLostDisk tells layout node second two)
      ⊎ (IsLostDisk tells layout node first one × IsSpared tells layout node second two)
  pub greatest : IsTrue tells → IsLayout layout → 4294967295 ≤ max (generation_on layout node first) (generation_on layout node second)

-- An opening that leaves one disk alone found another generation on it than the greatest there is.
pub record IsLeftAlone (layout : Layout) (node : ℕ) (first second : DiskSeen) (t : TwinSeen) : Type 0 where
  pub first_left : is_in_use t.first ≡ true → is_in_use t.second ≡ false → generation_on layout node first < 4294967295
  pub second_left : is_in_use t.first ≡ false → is_in_use t.second ≡ true → generation_on layout node second < 4294967295

-- whether a disk met no fault between these counts
abbrev pub is_spared : Counts → Counts → Bool
is_spared old new = nat_lt new.faults (one_more old.faults)

-- the vow without the disks that met a fault in an opening
abbrev pub spared : Vow → DiskSeen → DiskSeen → DiskSeen → DiskSeen → Vow
spared v first one second two =
    vow v.node v.held v.begun (v.first && is_spared first.counts one.counts) (v.second && is_spared second.counts two.counts)

-- A refusal is Full, Stopped, or for want of memory; or no image keeps too much to be opened, but on a disk that met a fault.
abbrev pub FullOrFits : Layout → ℕ → TwinRefusal → DiskSeen → DiskSeen → DiskSeen → DiskSeen → Type 0
FullOrFits layout node e first one second two = IsPassedOn e ⊎ (FitsOrFailed layout node first one × FitsOrFailed layout node second two)

-- What a twin that was opened has. Where a disk that vouched met no fault, that is held, with or without the change begun.
pub record IsRight (layout : Layout) (node : ℕ) (first second : DiskSeen) (t : TwinSeen) : Type 0 where
  pub has : Bodies
  pub holds : Holds layout has t
  pub sure : is_in_use t.first ≡ true → is_in_use t.second ≡ true → IsSure layout t
  pub covered : (v : Vow) → v.node ≡ node → IsOwnChange node v.begun → AreVouched layout v first.told second.told
      → IsCovered (spared v first (disk_of t.first) second (disk_of t.second)) → IsHeld v has × IsSure layout t

-- Two disks were opened: at least one is in use, and each is in use exactly where it met no fault and its image has a map.
pub record IsOpenedTwin (tells : Bool) (layout : Layout) (node : ℕ) (first second : DiskSeen) (t : TwinSeen) : Type 0 where
  pub ready : IsTwinReady t
  pub node_is : t.node ≡ node
  pub first_opened : IsOpenedBy tells layout node first t.first
  pub second_opened : IsOpenedBy tells layout node second t.second
  -- no disk was stopped
  pub first_stops : (disk_of t.first).counts.stops ≡ first.counts.stops
  pub second_stops : (disk_of t.second).counts.stops ≡ second.counts.stops
  pub right : IsTrue tells → IsLayout layout → IsRight layout node first second t
  pub alone : IsTrue tells → IsLayout layout → IsLeftAlone layout node first second t
  pub fits : IsTrue tells → IsLayout layout
      → FitsOrFailed layout node first (disk_of t.first) × FitsOrFailed layout node second (disk_of t.second)

-- What two disks vouched for before an opening that was refused, they vouch for behind it, but for a disk that met a fault.
abbrev pub StaysVouched : Bool → Layout → ℕ → DiskSeen → DiskSeen → DiskSeen → DiskSeen → Type 0
StaysVouched tells layout node first one second two = IsTrue tells → IsLayout layout → (v : Vow) → v.node ≡ node → IsOwnChange node v.begun
    → AreVouched layout v first.told second.told → AreVouched layout (spared v first one second two) one.told two.told

-- The second disk, where that is true, or the first was asked for a failure or a stop, and all else is as it was.
abbrev pub TwinArms : Bool → Bool → Bool → Arm → TwinSeen → TwinSeen → Type 0
TwinArms tells obeys true what old new =
    SideArms tells obeys what old.second new.second × (new ≡ pair old.node old.generation old.first new.second)
TwinArms tells obeys false what old new =
    SideArms tells obeys what old.first new.first × (new ≡ pair old.node old.generation new.first old.second)
