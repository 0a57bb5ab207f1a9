-- How a store and the queue of its worker stand for a node of the world.
use Rattle.std.specs.Prelude.{◌≡◌, ◌≢◌, ℕ, ◌+◌, ◌*◌, ◌/◌, ◌≤◌, true, false, cond, T, List, length, Option, None, Some, is_some, IsTrue}
use Rattle.std.specs.Prelude.{IfSome}
use Rattle.std.specs.FinMap as finite
use Rattle.std.specs.FinMap.Entries.{is_sorted}
use Rattle.capability.specs.declared.Uid.{Uid}
use Rattle.eden_model.specs.Map.{first, rest, value_at, uid_cmp, same_uid}
use Rattle.eden_disk.specs.Told.{Told}
use Rattle.passive_store.specs.Acts.{DiskCall}
use Rattle.passive_store.specs.Kept.{Layout, Kept, Work, Idle, Busy, Unsettled, doubt_in, change_in, is_synced, IsFresh, LeavesKept}
use Rattle.passive_store.specs.Kept.{StoreChange}
use Rattle.journal.specs.EjectChange.{EjectChange, body}
use Rattle.journal.specs.World.{Node, Site, Eject, StoreRequest}
use Rattle.journal.specs.Sites.{AllUnmade, AllThere}
use Rattle.journal.specs.Settling.{epoch_uid, epoch_bytes, doubts}
use Rattle.journal.specs.Standing.{Standing, Stands, kept_of_node, with_changes}
use Rattle.checkpoint.specs.Changes.{facts_in}
use Rattle.checkpoint.specs.Found.{change_of}
use Rattle.checkpoint.specs.Stretch.{Stretch}

-- 1. The state of a node, and what an entry does to its disk

-- what is kept on a node, and what is in doubt
abbrev pub state_of : ℕ → Node → Standing
state_of n it = record { kept = kept_of_node n it; changes = doubts n it }

-- from one node to another, where these changes may be under way in the entry besides
abbrev pub NodeOnDisk : Layout → ℕ → Node → List (Uid × EjectChange) → Node → Told → ℕ → Told → ℕ → Type 0
NodeOnDisk layout n it put later old before new after =
    Stretch (Stands layout n (state_of n it)) (Stands layout n (with_changes put (state_of n it))) (Stands layout n (state_of n later))
    old before new after

-- 2. What is kept on a node, and what is in doubt, uid by uid

-- what is in doubt of a uid, where this is the change in doubt
abbrev pub doubt_of : Option StoreChange → Uid → Option EjectChange
doubt_of None u = None
doubt_of (Some c) u = cond (same_uid u c.uid) (Some (change_of c.body)) None

-- how an epoch is kept
abbrev pub bytes_of_epoch : Option ℕ → Option (List ℕ)
bytes_of_epoch None = None
bytes_of_epoch (Some e) = Some (epoch_bytes e)

-- and how it is put
abbrev pub change_of_epoch : Option ℕ → Option EjectChange
change_of_epoch None = None
change_of_epoch (Some e) = Some (body (epoch_bytes e))

-- of the Ejects of a node, each uid is another, and none is the reserved one
pub record IsOrdered (n : ℕ) (ejects : List (Uid × Eject)) : Type 0 where
  pub in_order : T (is_sorted uid_cmp ejects)
  pub of_node : (u : Uid) → is_some (value_at uid_cmp u ejects) ≡ true → u.node ≡ n
  pub not_reserved : (u : Uid) → is_some (value_at uid_cmp u ejects) ≡ true → u ≢ epoch_uid n

-- a change adds to the ledger what its layout says
abbrev pub Wrote : Layout → Option StoreChange → Type 0
Wrote layout c = IfSome c (λ c. c.wrote ≡ layout.grows c.body)

-- a node keeps this, with this change in doubt
pub record MapStands (n : ℕ) (s : Site) (kept : Kept) (c : Option StoreChange) : Type 0 where
  pub undamaged : s.node.damaged ≡ None
  -- the room of the image that was handed in was told for a change
  pub not_untold : s.node.untold ≡ false
  pub ordered : IsOrdered n s.node.ejects
  pub facts : (u : Uid) → u ≢ epoch_uid n → facts_in s u ≡ (finite.get kept.bodies u, doubt_of c u)
  pub epoch : finite.get kept.bodies (epoch_uid n) ≡ bytes_of_epoch s.node.epoch
  pub epoch_doubt : doubt_of c (epoch_uid n) ≡ change_of_epoch s.node.epoch_doubt
  pub ledger : s.node.ledger ≡ kept.ledger
  pub wrote : Wrote s.layout c

-- 3. The requests of a node, and the job of its store

-- the first request has made some device calls of this job, and has some left, of no more than there may be
pub record IsUnderWay (c : StoreChange) (made : ℕ) (left : List DiskCall) (size : ℕ) (rs : List StoreRequest) : Type 0 where
  pub request : StoreRequest
  pub is_first : first rs ≡ Some request
  pub uid : request.uid ≡ c.uid
  pub change : request.change ≡ change_of c.body
  pub calls : request.made ≡ made
  pub some_made : 1 ≤ made
  pub some_left : 1 ≤ length left
  pub bounded : made + length left ≤ 2 * (size / 1024) + 4
  pub others : AllUnmade (rest rs)

-- the requests of a node, by what its store works on
abbrev pub RequestsStand : Work → ℕ → List StoreRequest → Type 0
RequestsStand Idle size rs = AllUnmade rs
RequestsStand (Busy c made left) size rs = IsUnderWay c made left size rs
RequestsStand (Unsettled c synced) size rs = AllUnmade rs

-- 4. A node that is up: its store, over a disk that tells

-- the node of the site has this store and this queue, and the disk has this clock
pub record StoreStands (layout : Layout) (n : ℕ) (s : Site) (requests : List StoreRequest) (work : Work) (kept : Kept)
    (more size clock : ℕ) (told : Told) : Type 0 where
  pub number : s.number ≡ n
  pub its_layout : s.layout ≡ layout
  pub up : s.node.up ≡ true
  pub keeps : MapStands n s kept (doubt_in work)
  -- the epoch is settled
  pub epoch_settled : s.node.epoch_doubt ≡ None
  pub epoch_stored : IsTrue (is_some s.node.epoch)
  pub queue : s.node.requests ≡ requests
  pub stand : RequestsStand work size requests
  pub there : AllThere requests s.node.ejects
  pub synced : s.node.synced ≡ is_synced work
  pub its_size : s.node.size ≡ size
  pub its_clock : s.node.clock ≡ Some clock
  pub not_overfull : s.node.overfull ≡ false
  pub fresh : IfSome (change_in work) (λ c. IsFresh c kept)
  -- a crash leaves what stands for it, and the room of that is told for so many more changes
  pub stands : LeavesKept layout n more kept work told
