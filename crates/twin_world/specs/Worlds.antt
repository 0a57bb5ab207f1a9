-- The world of a script, as the code has it: what stands at the places of four nodes.
use Rattle.std.specs.Prelude.{◌≡◌, ℕ, suc, ◌-◌, Bool, true, false, IsTrue, List, [], ◌∷◌, ◌++◌, ◌*◌, map, length, take, drop}
use Rattle.std.specs.Prelude.{slice_index_or, Result}
use Rattle.std.specs.Prelude.{IfOk}
use Rattle.std.specs.declared.alloc.AllocError.{AllocError}
use Rattle.passive_store.specs.Layout.{IsLayout}
use Rattle.passive_store.specs.Kept.{Layout}
use Rattle.passive_store.specs.Seen.{Seen, DiskSeen}
use Rattle.twin_world.specs.Causes.{IsTold, IsCounted}
use Rattle.twin_world.specs.Commands.{Command, node_of, IsNode}
use Rattle.twin_world.specs.Disks.{ZerosKeepNothing, CanRise}
use Rattle.twin_world.specs.Logs.{Entry, Pair, Texts, Steps, is_of, known_behind, blank_pair, no_texts}
use Rattle.twin_world.specs.Places.{Standing, Away, standing, disks_at, IsSound, StandsFor, IsCaused}
use Rattle.twin_world.specs.View.{entry_by}
use Rattle.twin_world.specs.declared.answer.Done.{Done}
use Rattle.twin_world.specs.declared.place.Place.{Place}
use Rattle.twin_world.specs.declared.place.Place.TheVariants as place

-- what is seen of the places
abbrev pub standings : {T D : Type 0} → (T → Seen) → (D → DiskSeen) → List (Place T D) → List Standing
standings seen look places = map (standing seen look) places

-- what stands at the place of this number
abbrev pub standing_at : List Standing → ℕ → Standing
standing_at ss n = slice_index_or ss (n - 1) Away

-- There are four places, at each of which something stands.
pub record IsWorld (ss : List Standing) : Type 0 where
  pub places : length ss ≡ 4
  pub sound : (n : ℕ) → IsNode n → IsSound n (standing_at ss n)

-- at each place the counts of faults can rise so often
abbrev pub CanGoOn : ℕ → List Standing → Type 0
CanGoOn k ss = (n : ℕ) → IsNode n → CanRise k (disks_at (standing_at ss n))

-- At each place two blank disks rest, on which nothing is held.
abbrev pub AreBlank : Layout → List Standing → Type 0
AreBlank layout ss = (n : ℕ) → IsNode n → StandsFor layout n blank_pair no_texts (standing_at ss n)

-- From whatever is known of the pair of each node, and held on it, an entry leads to what stands there behind it.
abbrev pub StepsAll : Layout → Entry → List Standing → List Standing → Type 0
StepsAll layout e old new = (n : ℕ) → IsNode n → (p : Pair) (m : Texts) → StandsFor layout n p m (standing_at old n)
    → (x : Texts) × Steps (is_of n e) e p m x × StandsFor layout n (known_behind (is_of n e) e p) x (standing_at new n)

-- an entry tells what became of the counts of its node's disks; those of another node are left
abbrev pub IsToldAt : Bool → Entry → List DiskSeen → List DiskSeen → Type 0
IsToldAt true e old new = IsTold e old new
IsToldAt false e old new = new ≡ old

abbrev pub TellsAll : Entry → List Standing → List Standing → Type 0
TellsAll e old new = (n : ℕ) → IsNode n → IsToldAt (is_of n e) e (disks_at (standing_at old n)) (disks_at (standing_at new n))

-- the answer of an entry has its cause in what stands at the place of its node
abbrev pub IsCausedAt : Bool → Layout → Entry → List Standing → Type 0
IsCausedAt tells layout e old = IsCaused tells layout e (standing_at old (node_of e.command))

-- A command was carried out. Want of memory is no answer.
pub record Moves (tells : Bool) (layout : Layout) (c : Command) (r : Result Done AllocError) (old new : List Standing) : Type 0 where
  pub world : IsWorld new
  pub rise : (k : ℕ) → CanGoOn (suc k) old → CanGoOn k new
  pub told : IfOk r (λ d. TellsAll (entry_by c d) old new)
  pub caused : IfOk r (λ d. IsCausedAt tells layout (entry_by c d) old)
  pub steps : IsTrue tells → IsLayout layout → ZerosKeepNothing layout → CanGoOn 0 old
      → IfOk r (λ d. StepsAll layout (entry_by c d) old new)

-- The last two of some disks stand at a place, and the others are left.
abbrev pub LastPair : {T D : Type 0} → List D → List D → Place T D → Type 0
LastPair {D = D} old new p = (first : D) × (second : D) × (old ≡ new ++ first ∷ second ∷ []) × (p ≡ place.Rest first second)

-- The entries lead on from what is known of a node's pair, and held on it, to what stands there.
abbrev pub LeadsTo : Layout → ℕ → List Entry → Pair → Texts → Standing → Type 0
LeadsTo layout n [] p m new = StandsFor layout n p m new
LeadsTo layout n (e ∷ es) p m new = (x : Texts) × Steps (is_of n e) e p m x × LeadsTo layout n es (known_behind (is_of n e) e p) x new

-- So it is of each node, from whatever stood at its place before.
abbrev pub Reaches : Layout → List Entry → List Standing → List Standing → Type 0
Reaches layout es old new = (n : ℕ) → IsNode n → (p : Pair) (m : Texts) → StandsFor layout n p m (standing_at old n)
    → LeadsTo layout n es p m (standing_at new n)

-- The entries lead from what stands at the places to what stands there behind them: each tells what became of the disks, and has its cause.
abbrev pub Runs : Bool → Layout → List Entry → List Standing → List Standing → Type 0
Runs tells layout [] old new = new ≡ old
Runs tells layout (e ∷ es) old new =
    (mid : List Standing) × TellsAll e old mid × IsCausedAt tells layout e old × Runs tells layout es mid new

-- the disks of all places, in order
abbrev pub all_disks : List Standing → List DiskSeen
all_disks [] = []
all_disks (s ∷ ss) = disks_at s ++ all_disks ss

-- The entries lead over some disks, from what stood there to what was left.
pub record RunsOver (tells : Bool) (layout : Layout) (es : List Entry) (old new : List DiskSeen) : Type 0 where
  pub first : List Standing
  pub last : List Standing
  pub world : IsWorld first
  pub world_left : IsWorld last
  pub begins : all_disks first ≡ old
  pub ends : all_disks last ≡ new
  pub runs : Runs tells layout es first last

-- the two disks of a node among those of all
abbrev pub disks_of_node : List DiskSeen → ℕ → List DiskSeen
disks_of_node ds n = take 2 (drop (2 * (n - 1)) ds)

-- of each node the counts of its disks rose as often as the entries say
abbrev pub AllCounted : List Entry → List DiskSeen → List DiskSeen → Type 0
AllCounted es old new = (n : ℕ) → IsNode n → IsCounted n es (disks_of_node old n) (disks_of_node new n)
