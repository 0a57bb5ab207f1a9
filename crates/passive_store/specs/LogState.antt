-- A store over a log: what is seen of it, and how its index stands to the bytes of the disk.
use Rattle.std.specs.Prelude.{◌≡◌, ◌&&◌, not, ℕ, suc, zero, ◌+◌, ◌≤◌, ◌==◌, Bool, true, false, List, [], ◌∷◌, ◌++◌, length, take, map}
use Rattle.std.specs.Prelude.{slice_index, slice_range, Option, None, Some, IfSome, IsSome}
use Rattle.std.proofs.Common.{cond}
use Rattle.std.specs.Option.{option_map, option_and_then}
use Rattle.std.specs.FinMap as finite
use Rattle.std.specs.Ordering.{eq_by_cmp}
use Rattle.std.specs.BTreeMap as tree
use Rattle.std.specs.BTreeMap.{BTreeMap, is_at}
use Rattle.std.specs.Map.{lookup}
use Rattle.capability.specs.declared.Uid.{Uid}
use Rattle.capability.specs.Uids.{uid_cmp}
use Rattle.eden_disk.specs.Told.{Told, Contents, contents, at_rest}
use Rattle.eden_disk.specs.Calls.{Counts, Due}
use Rattle.eden_disk.specs.Held.{Holds}
use Rattle.passive_store.specs.declared.store.Pick.{Pick}
use Rattle.passive_store.specs.declared.index.Slot.{Slot}
use Rattle.passive_store.specs.declared.log_store.Pending.{Pending}
use Rattle.passive_store.specs.declared.log_store.Stage.{Stage}
use Rattle.passive_store.specs.declared.log_store.Stage.TheVariants.{Begun, Written, Synced, Opened, Ended}
use Rattle.passive_store.specs.Kept.{StoreChange, Kept, Work, Idle, Busy, Unsettled, IsFresh}
use Rattle.passive_store.specs.Seen.{Seen, disk_seen}
use Rattle.passive_store.specs.Acts.{DiskCall, Write, Sync}
use Rattle.passive_store.specs.Log.{log_grows, IsFront, SpellsRecord, HalfWritten}
use Rattle.passive_store.specs.LogLayout.{body_length, log_changes, log_kept, records_before, record_job, used_by}

-- what is seen of a store over a log
pub record LogState (D : Type 0) : Type 0 where
  pub device : D
  pub node : ℕ
  pub tail : ℕ
  pub work : Work
  pub picked : Option Pick
  -- the entries of the index, empty ones among them
  pub entries : List (Uid × Option Slot)

-- what a store over a log shows, by what its disk tells
abbrev pub state_kept : {D : Type 0} → (D → Told) → LogState D → Kept
state_kept told s = log_kept s.node s.tail (contents (told s.device)).now

-- this store as each store is seen, by what its disk counts, tells and has due; it notes no place of a refused write
abbrev pub log_seen : {D : Type 0} → (D → Counts) → (D → Told) → (D → Due) → LogState D → Seen
log_seen counts told due s = record {
  node = s.node;
  work = s.work;
  picked = s.picked;
  kept = state_kept told s;
  more = log_changes;
  refused_at = None;
  disk = disk_seen counts told due s.device;
}

-- the index has an entry for a uid, so that none has to be made
abbrev pub HasEntry : List (Uid × Option Slot) → Uid → Type 0
HasEntry entries uid = IsSome (lookup (is_at (uid_cmp uid)) entries)

-- the body that a pending record gives its uid
abbrev pub pending_body : Pending → Option (List ℕ)
pending_body p = cond p.removal None (Some (slice_range p.bytes.items 14 (14 + p.length)))

-- the change that a pending record stands for; its mark is the tail, where its gate is
abbrev pub change_of : ℕ → Pending → StoreChange
change_of tail p = record { uid = p.uid; body = pending_body p; mark = tail; wrote = log_grows (pending_body p) }

-- the next device call of a job, by its stage; of one that was refused the sync of its settling
abbrev pub stage_call : ℕ → List ℕ → Stage → DiskCall
stage_call tail bytes Begun = Write (tail + 1) bytes
stage_call tail bytes Written = Sync
stage_call tail bytes Synced = Write tail (225 ∷ [])
stage_call tail bytes Opened = Sync
stage_call tail bytes (Ended synced) = Sync

-- a change as work at this stage: how many calls of its job are made, and those left; or unsettled, where the job has ended
abbrev pub staged : ℕ → List ℕ → StoreChange → Stage → Work
staged tail bytes c Begun = Busy c 0 (record_job tail bytes)
staged tail bytes c Written = Busy c 1 (Sync ∷ Write tail (225 ∷ []) ∷ Sync ∷ [])
staged tail bytes c Synced = Busy c 2 (Write tail (225 ∷ []) ∷ Sync ∷ [])
staged tail bytes c Opened = Busy c 3 (Sync ∷ [])
staged tail bytes c (Ended synced) = Unsettled c synced

-- what the store works on, by its pending record and the stage of that; without one it is idle
abbrev pub pending_work : ℕ → Option Pending → Work
pending_work tail None = Idle
pending_work tail (Some p) = staged tail p.bytes.items (change_of tail p) p.stage

-- the slot of a uid, or none
abbrev pub slot_at : BTreeMap Uid (Option Slot) → Uid → Option Slot
slot_at index uid = option_and_then (λ slot. slot) (tree.get uid_cmp index uid)

-- the slot of a record at a place; a removal has none
abbrev pub slot_of : Bool → ℕ → ℕ → Option Slot
slot_of removal gate length = cond removal None (Some (record { gate = gate; length = length }))

-- the uid is that of an Eject of this node
abbrev pub is_eject : ℕ → Uid → Bool
is_eject node uid = uid.node == node && (not (uid.epoch == 0) && not (uid.serial == 0))

-- an index after one of its slots was set
abbrev pub SetsSlot : BTreeMap Uid (Option Slot) → BTreeMap Uid (Option Slot) → Uid → Option Slot → Type 0
SetsSlot old new uid slot = (q : Uid) → slot_at new q ≡ cond (eq_by_cmp uid_cmp q uid) slot (slot_at old q)

-- The index has each kept uid and no other, with the place of its record, which is its mark, and of its body in these bytes.
pub record IsIndex (index : BTreeMap Uid (Option Slot)) (kept : Kept) (tail : ℕ) (bytes : List ℕ) : Type 0 where
  pub marks : (uid : Uid) → finite.get kept.marks uid ≡ option_map (λ (s : Slot). s.gate) (slot_at index uid)
  pub bodies : (uid : Uid)
      → finite.get kept.bodies uid ≡ option_map (λ (s : Slot). slice_range bytes (s.gate + 15) (s.gate + 15 + s.length)) (slot_at index uid)

-- the bytes of a pending record, with a closed gate behind them, say what it changes
pub record IsPendingOf (node tail : ℕ) (kept : Kept) (p : Pending) : Type 0 where
  pub bytes : List ℕ
  pub is : p.bytes.items ≡ bytes ++ 0 ∷ []
  pub spells : SpellsRecord node bytes p.uid (pending_body p)
  pub size : length bytes ≡ 14 + p.length
  pub long : body_length (change_of tail p) ≡ p.length
  pub fresh : IsFresh (change_of tail p) kept

-- these bytes are a record that gives its uid a body of so many bytes, or none, with a closed gate behind it
pub record IsRecordOf (node : ℕ) (items : List ℕ) (uid : Uid) (removal : Bool) (size : ℕ) : Type 0 where
  pub bytes : List ℕ
  pub is : items ≡ bytes ++ 0 ∷ []
  pub spells : SpellsRecord node bytes uid (cond removal None (Some (slice_range items 14 (14 + size))))
  pub long : length bytes ≡ 14 + size
  pub empty : removal ≡ true → size ≡ 0

-- nothing is unsynced, and the log ends with a closed gate
abbrev pub IsClosed : ℕ → Contents → Type 0
IsClosed tail c = (c ≡ at_rest c.now) × ((slice_index c.now tail == 225) ≡ false)

-- these bytes stand behind the front and a closed gate
abbrev pub IsShut : List ℕ → List ℕ → List ℕ → Type 0
IsShut front bytes now = (gate : ℕ) × (rest : List ℕ) × ((gate == 225) ≡ false) × (now ≡ front ++ gate ∷ (bytes ++ rest))

-- these bytes stand behind the front and an open gate
abbrev pub IsOpened : List ℕ → List ℕ → List ℕ → Type 0
IsOpened front bytes now = (rest : List ℕ) × (now ≡ front ++ 225 ∷ (bytes ++ rest))

-- how the contents stand after so many device calls of a job
abbrev pub JobFacts : List ℕ → List ℕ → ℕ → Contents → Type 0
JobFacts front bytes zero c =
    (c ≡ at_rest c.now) ×
    ((gate : ℕ) × (rest : List ℕ) × ((gate == 225) ≡ false) × (c.now ≡ front ++ gate ∷ rest) × (length bytes ≤ length rest))
JobFacts front bytes (suc zero) c = IsShut front bytes c.now
JobFacts front bytes (suc (suc zero)) c = (c ≡ at_rest c.now) × IsShut front bytes c.now
JobFacts front bytes (suc (suc (suc zero))) c = IsOpened front bytes c.now
JobFacts front bytes (suc (suc (suc (suc zero)))) c = (c ≡ at_rest c.now) × IsOpened front bytes c.now
JobFacts front bytes (suc (suc (suc (suc (suc more))))) c = Unit {0}

-- so many calls of a job are made: the contents are as `JobFacts` says, and a crash leaves the gate closed or the record whole
abbrev pub IsJobAfter : ℕ → List ℕ → List ℕ → ℕ → Contents → Type 0
IsJobAfter size front bytes made c = Holds (HalfWritten size front bytes) c × JobFacts front bytes made c

-- how many calls of its job are made at a stage; of one that was refused 5, of which `JobFacts` says nothing
abbrev pub made_at : Stage → ℕ
made_at Begun = 0
made_at Written = 1
made_at Synced = 2
made_at Opened = 3
made_at (Ended synced) = 5

-- the stage behind the next call of a job; none behind the last, and where the job has ended
abbrev pub stage_after : Stage → Option Stage
stage_after Begun = Some Written
stage_after Written = Some Synced
stage_after Synced = Some Opened
stage_after Opened = None
stage_after (Ended synced) = None

-- this holds where a job has made no device call; at a later stage nothing is asked
abbrev pub WhereBegun : Stage → Type 0 → Type 0
WhereBegun Begun P = P
WhereBegun Written P = Unit {0}
WhereBegun Synced P = Unit {0}
WhereBegun Opened P = Unit {0}
WhereBegun (Ended synced) P = Unit {0}

-- whether the sync of the settling is made; before the job has ended it is not
abbrev pub stage_synced : Stage → Bool
stage_synced Begun = false
stage_synced Written = false
stage_synced Synced = false
stage_synced Opened = false
stage_synced (Ended synced) = synced

-- whether a call of the job was refused, so that its change waits to be settled
abbrev pub stage_ended : Stage → Bool
stage_ended Begun = false
stage_ended Written = false
stage_ended Synced = false
stage_ended Opened = false
stage_ended (Ended synced) = true

-- before the first device call of a job nothing is unsynced, and the gate at the tail is closed
abbrev pub IsUntouched : ℕ → Contents → Stage → Type 0
IsUntouched tail c Begun = IsClosed tail c
IsUntouched tail c Written = Unit {0}
IsUntouched tail c Synced = Unit {0}
IsUntouched tail c Opened = Unit {0}
IsUntouched tail c (Ended synced) = Unit {0}

-- what the device calls of a job, and of a settling, have done so far
abbrev pub IsAtStage : ℕ → List ℕ → Contents → Stage → Type 0
IsAtStage tail bytes c Begun = Unit {0}
IsAtStage tail bytes c Written = IsShut (take tail c.now) bytes c.now
IsAtStage tail bytes c Synced = (c ≡ at_rest c.now) × IsShut (take tail c.now) bytes c.now
IsAtStage tail bytes c Opened = IsOpened (take tail c.now) bytes c.now
IsAtStage tail bytes c (Ended false) = Unit {0}
IsAtStage tail bytes c (Ended true) = c ≡ at_rest c.now

-- the contents are as the stage of the pending record says; where no record is pending nothing is asked
abbrev pub IsStaged : ℕ → Contents → Option Pending → Type 0
IsStaged tail c None = Unit {0}
IsStaged tail c (Some p) = IsAtStage tail p.bytes.items c p.stage

-- How the contents stand where nothing is pending, and where a record is.
abbrev pub IsTailOf : ℕ → ℕ → ℕ → Contents → Option Pending → Type 0
IsTailOf node size tail c None = IsClosed tail c
IsTailOf node size tail c (Some p) =
    Holds (HalfWritten size (take tail c.now) p.bytes.items) c × IsPendingOf node tail (log_kept node tail c.now) p
    × IsUntouched tail c p.stage

-- The disk has the log that memory has: with this tail, this index, and the record that is pending, if one is.
pub record IsLog (node size tail : ℕ) (c : Contents) (index : BTreeMap Uid (Option Slot)) (pending : Option Pending) : Type 0 where
  pub whole : length c.now ≡ size
  pub header : slice_index c.now 0 ≡ 237
  pub front : IsFront node (take tail c.now) (records_before node tail c.now)
  pub indexed : IsIndex index (log_kept node tail c.now) tail c.now
  pub sum : tail ≡ 16 + used_by (map body_length (records_before node tail c.now))
  pub end : IsTailOf node size tail c pending

-- What holds of the store whatever the disk tells: its records, and the pending one, have their places on the disk.
pub record IsPlaced (size tail : ℕ) (counts : Counts) (index : BTreeMap Uid (Option Slot)) (pending : Option Pending) : Type 0 where
  pub sized : counts.size ≡ size
  pub begins : 16 ≤ tail
  pub ends : tail + 1 ≤ size
  pub slots : (uid : Uid) → IfSome (slot_at index uid) (λ (s : Slot). s.gate + 15 + s.length ≤ tail)
  pub placed : IfSome pending (λ (p : Pending). (tail + 1 + length p.bytes.items ≤ size)
      × IsSome (tree.get uid_cmp index p.uid) × (length p.bytes.items ≡ p.length + 15))
