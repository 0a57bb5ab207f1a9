-- What stands on a node's disk, at the end and at each moment.
use Rattle.std.specs.Prelude.{◌≡◌, ◌⊎◌, ℕ, ◌+◌, ◌-◌, ◌==◌, ◌≤◌, ◌<◌, nat_lt, Bool, true, cond, not, ◌&&◌, List, [], ◌∷◌, ◌++◌, Option}
use Rattle.std.specs.Prelude.{None, Some, Result, Ok, Err, is_some}
use Rattle.capability.specs.declared.Uid.{Uid}
use Rattle.eden_model.specs.Map.{with_item, put_at, where_key, uid_cmp, same_uid}
use Rattle.std.specs.List.{All}
use Rattle.eden_disk.specs.Told.{Told}
use Rattle.eden_disk.specs.Calls.{Counts, Due}
use Rattle.eden_disk.specs.Moments.{LeftAfter, LeftIn}
use Rattle.eden_disk.specs.Timed.{Timed}
use Rattle.passive_store.specs.Kept.{Layout}
use Rattle.journal.specs.EjectChange.{EjectChange, body, removal}
use Rattle.journal.specs.declared.event.Event.{Event}
use Rattle.journal.specs.declared.event.Event.TheVariants as event
use Rattle.journal.specs.World.{World, Node, StoreRequest, site_at, node_at}
use Rattle.journal.specs.Ejects.{stored_epoch}
use Rattle.journal.specs.Settling.{epoch_uid, epoch_bytes, doubts, kept_map, settled, first_request}
use Rattle.journal.specs.Boots.{last_epoch}
use Rattle.journal.specs.Opening.{found_in}
use Rattle.journal.specs.Run.{Step}

-- 1. The state of a node

-- what is kept (none where the opening image has no map), and the changes that may have been made to it
pub record Standing : Type 0 where
  -- what is kept under each uid, in ascending order of uids; None where the opening image has no map
  pub kept : Option (List (Uid × List ℕ))
  -- the changes that may have been made to it, each with its uid, in their order
  pub changes : List (Uid × EjectChange)

-- what is kept on node n; None where its opening image is damaged
abbrev pub kept_of_node : ℕ → Node → Option (List (Uid × List ℕ))
kept_of_node n it = cond (is_some it.damaged) None (Some (kept_map n it))

-- the state of a node that the world does not have: no map, and no changes
abbrev pub nothing_stands : Standing
nothing_stands = record { kept = None; changes = [] }

-- the state of node n in this world: what is kept there, and what is in doubt
abbrev pub state : World → ℕ → Standing
state w n = with_item (node_at w n) (λ it. record { kept = kept_of_node n it; changes = doubts n it }) nothing_stands

-- 2. The state at a device call

-- an entry on the disk with a clock past m
abbrev pub is_past : ℕ → ℕ → Step → Bool
is_past n m s = (s.entry.node == n) && nat_lt m s.entry.clock

-- the steps from the first entry on the disk with a clock past m on
abbrev pub from_past : ℕ → ℕ → List Step → List Step
from_past n m [] = []
from_past n m (s ∷ later) = cond (is_past n m s) (s ∷ later) (from_past n m later)

-- a put of the epoch behind this one, where there is one
abbrev pub put_behind : ℕ → ℕ → List (Uid × EjectChange)
put_behind n e = cond (nat_lt e last_epoch) ((epoch_uid n, body (epoch_bytes (e + 1))) ∷ []) []

-- the epoch that a boot of this node puts, or would put, after its pick
abbrev pub epoch_put : ℕ → World → Event → List (Uid × EjectChange)
epoch_put n w (event.Boot m e how p began) =
    cond (m == n) (with_item (site_at w n) (λ s. put_behind n (stored_epoch (settled p s).node)) []) []
epoch_put n w _ = []

-- a state with these changes behind its own
abbrev pub with_changes : List (Uid × EjectChange) → Standing → Standing
with_changes cs s = record s { changes = s.changes ++ cs }

-- the state of node n before the first of these steps, with the epoch that this puts; of no steps, that in `last`, the world at the end
abbrev pub state_before : ℕ → World → List Step → Standing
state_before n last [] = state last n
state_before n last (s ∷ later) = with_changes (epoch_put n s.world s.entry.event) (state s.world n)

-- the state of node n at device call m: that before the first entry on its disk with a clock past m, or that at the end where there is none
abbrev pub at : World → List Step → ℕ → ℕ → Standing
at last run n m = state_before n last (from_past n m run)

-- 3. Images

-- what is kept once a change is made: the bytes are there under its uid, or nothing is
abbrev pub changed_map : Uid × EjectChange → List (Uid × List ℕ) → List (Uid × List ℕ)
changed_map (u, body bytes) kept = put_at uid_cmp u bytes kept
changed_map (u, removal) kept = where_key uid_cmp (λ v. not (same_uid v u)) kept

-- what is found is what is kept with any of these changes made, in their order
abbrev pub IsAnyOf : List (Uid × List ℕ) → List (Uid × EjectChange) → Result (List (Uid × List ℕ)) ℕ → Type 0
IsAnyOf kept [] found = found ≡ Ok kept
IsAnyOf kept (c ∷ cs) found = IsAnyOf kept cs found ⊎ IsAnyOf (changed_map c kept) cs found

-- what was found in an image is a damaged place, and so no map
abbrev pub IsDamaged : Result (List (Uid × List ℕ)) ℕ → Type 0
IsDamaged (Ok kept) = ⊥
IsDamaged (Err place) = Unit {0}

-- what was found in an image is what is kept with any of the changes made; where no map is kept, it is damaged
abbrev pub StandsFor : Option (List (Uid × List ℕ)) → List (Uid × EjectChange) → Result (List (Uid × List ℕ)) ℕ → Type 0
StandsFor None changes found = IsDamaged found
StandsFor (Some kept) changes found = IsAnyOf kept changes found

-- an image of node n stands for this state
abbrev pub Stands : Layout → ℕ → Standing → List ℕ → Type 0
Stands layout n s image = StandsFor s.kept s.changes (found_in layout n image)

-- 4. Disks

-- a disk, as it was handed in and as it was given back
pub record DiskRun : Type 0 where
  -- whether it does what `fail` and `stop` ask
  pub obeys : Bool
  -- the clocks at which a failure and a stop fall due that were asked for before it was handed in
  pub due : Due
  -- what it told of its contents as it was handed in
  pub before : Told
  -- its counts as it was handed in, the first clock among them
  pub first : Counts
  -- what it told of its contents as it was given back
  pub after : Told
  -- its counts as it was given back
  pub last : Counts
  -- the clocks at which a failure and a stop fall due that were asked for before it was given back
  pub left : Due

-- what may be under way besides, at a moment of a node's disk
abbrev pub Added : Type 0
Added = ℕ → ℕ → List (Uid × EjectChange)

-- nothing, where the run came to its end
abbrev pub nothing_added : Added
nothing_added n m = []

-- the change of a request with its uid, if there is a request
abbrev pub request_changes : Option StoreRequest → List (Uid × EjectChange)
request_changes None = []
request_changes (Some r) = (r.uid, r.change) ∷ []

-- the epoch in doubt, else the stored one, else 0
abbrev pub highest_epoch : Node → ℕ
highest_epoch it = with_item it.epoch_doubt (λ e. e) (stored_epoch it)

-- the change of the first request of node n, and the put of its next epoch, counted from the one in doubt where one is
abbrev pub unfinished_at : ℕ → Node → List (Uid × EjectChange)
unfinished_at n it = request_changes (first_request it) ++ put_behind n (highest_epoch it)

-- whether a moment lies past the last entry on the node's disk; each does where there is no entry
abbrev pub is_past_last : Node → ℕ → Bool
is_past_last it m = with_item it.clock (λ c. nat_lt c m) true

-- what may be under way on node n at moment m where want of memory ended the run in the world `last`; nothing up to its last entry
abbrev pub unfinished : World → Added
unfinished last n m = with_item (node_at last n) (λ it. cond (is_past_last it m) (unfinished_at n it) []) []

-- an entry on this disk shows a clock between that with which the disk was handed in and that with which it was given back
abbrev pub ShowsItsClock : ℕ → DiskRun → Step → Type 0
ShowsItsClock n d s = s.entry.node ≡ n → (d.first.clock ≤ s.entry.clock) × (s.entry.clock ≤ d.last.clock)

-- the disk d of node n stands for the history throughout a run, with what is added under way besides
pub record StandsThroughout (layout : Layout) (last : World) (run : List Step) (added : Added) (n : ℕ) (d : DiskRun) : Type 0 where
  -- the disk that is given back is the one that was handed in, and what it tells changed between its two clocks
  pub same : Timed d.first.clock d.before d.last.clock d.after
  -- each entry on the disk shows a clock between these two
  pub clocks : All (ShowsItsClock n d) run
  -- behind each device call a crash leaves only images that stand for the history up to there
  pub behind : (m : ℕ) (image : List ℕ) → d.first.clock ≤ m → m ≤ d.last.clock → LeftAfter d.before d.first.clock d.after m image
      → Stands layout n (with_changes (added n m) (at last run n m)) image
  -- and in the middle of each only images that stand for the history up to the call before
  pub within : (m : ℕ) (image : List ℕ) → d.first.clock < m → m ≤ d.last.clock → LeftIn d.before d.first.clock d.after m image
      → Stands layout n (with_changes (added n m) (at last run n (m - 1))) image
