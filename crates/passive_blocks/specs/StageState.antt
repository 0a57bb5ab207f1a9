-- What stands on the disk at each stage of a job.
use Rattle.std.specs.Prelude.{◌≡◌, ◌≢◌, ◌⊎◌, ◌+◌, ◌*◌, ◌-◌, ◌^◌, ◌/◌, ◌<◌, ◌≤◌, ◌==◌, ◌&&◌, ◌||◌, not, ℕ, Bool, true, false, IsTrue, List}
use Rattle.std.specs.Prelude.{[], ◌∷◌, ◌++◌}
use Rattle.std.specs.Prelude.{length, map, filter, take, drop, min, if◌then◌else◌, slice_index, slice_range, slice_set, is_some, Option}
use Rattle.std.specs.Prelude.{None, Some, IfSome, Ok}
use Rattle.std.specs.Int.{w16, to_be_bytes}
use Rattle.std.specs.List.{list_all}
use Rattle.eden_disk.specs.Told.{Contents, Told, at_rest, contents}
use Rattle.eden_disk.specs.Calls.{Counts}
use Rattle.eden_disk.specs.Held.{Holds}
use Rattle.block_tables.specs.declared.heads.HeadFields.{HeadFields}
use Rattle.block_tables.specs.declared.table.Table.{Table}
use Rattle.passive_blocks.specs.declared.block_store.Pending.{Pending}
use Rattle.passive_blocks.specs.declared.block_store.Stage.{Stage}
use Rattle.passive_blocks.specs.declared.block_store.Stage.TheVariants.{Close, Write as WritePart, Head as WriteHead, SyncHead, Open}
use Rattle.passive_blocks.specs.declared.block_store.Stage.TheVariants.{SyncOpen}
use Rattle.passive_blocks.specs.declared.block_store.Stage.TheVariants.{Ended}
use Rattle.block_tables.specs.Members.{is_member}
use Rattle.block_tables.specs.Blocks.{Head, head_in, is_head, head_place, blocks_of, data_count, heads_of, chains_of, keeping}
use Rattle.block_tables.specs.Blocks.{closing, counts, is_alone, has}
use Rattle.block_tables.specs.Blocks.{taken_by, next_block, kept_in_blocks}
use Rattle.passive_store.specs.Acts.{DiskCall, Write, Sync}
use Rattle.block_tables.specs.Changes.{spelled_head, first_or_zero, size_of}
use Rattle.capability.specs.declared.Uid.{Uid}
use Rattle.passive_store.specs.Kept.{Kept, IsFresh, IsOwn, KeepsTelling, kept_after, reserved_uid}
use Rattle.passive_store.specs.declared.store.Pick.{Pick}
use Rattle.passive_store.specs.declared.store.Pick.TheVariants.{Old, New}
use Rattle.passive_blocks.specs.BlockLayout.{block_changes, changes_left}
use Rattle.passive_blocks.specs.Fits.{Fits}
use Rattle.block_tables.specs.HeadSeen.{head_of}
use Rattle.block_tables.specs.HeadState.{heads_in, slot_at, is_open, closed_slot}
use Rattle.block_tables.specs.TableState.{keeper, spare}
use Rattle.passive_blocks.specs.HeldState.{IsHeld, behind_walk}
use Rattle.passive_blocks.specs.StoreState.{IsTableOf, IsImageOf, chain_in, change_of, members_of, calls_at, kept_or_none}

-- the gate of a head is open on an image
abbrev pub gate_open : List ℕ → ℕ → Bool
gate_open image number = slice_index image (head_place number) == 225

-- a head that may be closed while a job is under way: it does not count, or it is a removal and the only open one of its uid
abbrev pub may_close : List Head → Head → Bool
may_close heads h = not (counts heads h) || (h.removal && is_alone heads h)

-- whether the head of this number is among those that the change closes
abbrev pub closes : List Head → ℕ → Bool
closes heads number = has number (map (λ (h : Head). h.number) (closing heads))

-- Before the head of a change is opened a byte at a place may be this, by the image at which the job began and its open heads.
pub record MayStand (heads : List Head) (began : List ℕ) (place byte : ℕ) : Type 0 where
  -- blocks stand on the disk
  pub format : place ≡ 1 → byte ≡ 235
  -- a head that was closed is closed, whatever stands behind its gate
  pub shut : (n : ℕ) → n < length began / 1024 → place ≡ head_place n → gate_open began n ≡ false → (byte == 225) ≡ false
  -- one that was open is open and says what it said, but those that the change closes may be closed
  pub gate : (n : ℕ) → n < length began / 1024 → place ≡ head_place n → gate_open began n ≡ true → closes heads n ≡ false → byte ≡ 225
  pub head : (n o : ℕ) → n < length began / 1024 → 1 ≤ o → o < 32 → place ≡ head_place n + o → gate_open began n ≡ true
      → byte ≡ slice_index began place
  -- the blocks of what is kept are as they were
  pub block : (b o : ℕ) → has b (taken_by (chains_of began heads)) ≡ true → o < 1024 → place ≡ b * 1024 + o
      → byte ≡ slice_index began place

-- behind the first sync of a job nothing but the gate of its head may differ
abbrev pub MayOpen : List ℕ → ℕ → ℕ → ℕ → Type 0
MayOpen ready number place byte = (place ≡ head_place number) ⊎ (byte ≡ slice_index ready place)

-- The table while a job is under way, by the image at which it began: some of the heads that the change closes are closed.
pub record IsBegun (node : ℕ) (began : List ℕ) (heads : List Head) (t : Table) : Type 0 where
  pub format : slice_index began 1 ≡ 235
  pub long : length began ≡ t.blocks.size
  pub found : heads_of node began ≡ Ok heads
  pub chains : chains_of began heads ≡ map (chain_in t.blocks.next.items) (keeping heads)
  pub left : heads_in t.heads.slots.items ≡ filter (λ (h : Head). is_open (slot_at t.heads.slots.items h.number)) heads
  pub closed : list_all (λ (h : Head). is_open (slot_at t.heads.slots.items h.number) || may_close heads h) heads ≡ true
  pub closing : (k : ℕ) → is_member t.heads.closing k ≡ true → closes heads k ≡ true

-- the part of a body with this number, from 0 on; each is of up to 1,022 bytes
abbrev pub part_of_body : List ℕ → ℕ → List ℕ
part_of_body body i = take 1022 (drop (1022 * i) body)

-- on a block stand the number of the next one and some bytes
abbrev pub HasPart : List ℕ → List ℕ → ℕ → List ℕ → Type 0
HasPart image next block part =
    (next_block image block ≡ slice_index next block) × (slice_range image (block * 1024 + 2) (block * 1024 + 2 + length part) ≡ part)

-- the first blocks of a change, so many, are written
abbrev pub IsWritten : List ℕ → List ℕ → ℕ → List ℕ → ℕ → Type 0
IsWritten image next first body count =
    (i : ℕ) → i < count → HasPart image next (behind_walk next first i) (part_of_body body i)

-- all blocks of a change are written, if it is no removal
abbrev pub IsBodyWritten : List ℕ → List ℕ → Pending → Type 0
IsBodyWritten image next p =
    p.head.removal ≡ false → IsWritten image next p.head.first p.body.items (blocks_of (length p.body.items))

-- the head of a change is written behind its gate
abbrev pub IsHeadWritten : List ℕ → HeadFields → Type 0
IsHeadWritten image h = slice_range image (head_place h.number + 1) (head_place h.number + 32) ≡ spelled_head (head_of h)

-- these fields are of the format, and their bytes say them
pub record IsSpelled (node size : ℕ) (h : HeadFields) : Type 0 where
  pub same : head_of h ≡ head_in h.number (225 ∷ spelled_head (head_of h))
  pub good : is_head node size (225 ∷ spelled_head (head_of h)) (head_of h) ≡ true

-- What is seen of a job before its first sync: the blocks before the next one stand there, then all of them, and then the head too.
abbrev pub IsSeenAt : List ℕ → Table → Pending → Stage → Type 0
IsSeenAt now t p Close = Unit {0}
IsSeenAt now t p (WritePart block from) = IsWritten now t.blocks.next.items p.head.first p.body.items (from / 1022)
IsSeenAt now t p WriteHead = IsBodyWritten now t.blocks.next.items p
IsSeenAt now t p SyncHead = IsBodyWritten now t.blocks.next.items p × IsHeadWritten now p.head
IsSeenAt now t p Open = Unit {0}
IsSeenAt now t p SyncOpen = Unit {0}
IsSeenAt now t p (Ended gate synced) = Unit {0}

-- The images that a crash may leave up to the first sync.
pub record IsEarly (node more : ℕ) (t : Table) (p : Pending) (c : Contents) : Type 0 where
  pub began : List ℕ
  pub heads : List Head
  pub begun : IsBegun node began heads t
  pub shut : gate_open began p.head.number ≡ false
  -- for so many more changes the room is told by the image at which the job began
  pub told : more ≤ block_changes node began
  pub fits : Holds (Fits (MayStand heads began) (length began)) c

-- The image behind the first sync, on which all of a change stands, with its gate shut.
pub record IsReady (node : ℕ) (ready : List ℕ) (t : Table) (p : Pending) : Type 0 where
  pub table : IsTableOf node ready t
  pub body : IsBodyWritten ready t.blocks.next.items p
  pub head : IsHeadWritten ready p.head
  pub shut : gate_open ready p.head.number ≡ false

-- For so many more changes the room is told on it, with the change and without it.
pub record IsToldReady (node more : ℕ) (ready : List ℕ) (t : Table) (p : Pending) : Type 0 where
  pub now : more ≤ block_changes node ready
  pub behind : (kept : Kept) → kept_in_blocks ready (Ok (heads_in t.heads.slots.items)) ≡ Ok kept
      → more ≤ changes_left (length ready) (heads_in (slice_set t.heads.slots.items p.head.number p.head))
      (Ok (kept_after (change_of p) kept))

-- The images that a crash may leave from the first sync on.
pub record IsLate (node more : ℕ) (t : Table) (p : Pending) (c : Contents) : Type 0 where
  pub ready : List ℕ
  pub is : IsReady node ready t p
  pub told : IsToldReady node more ready t p
  pub fits : Holds (Fits (MayOpen ready p.head.number) (length ready)) c

-- the slots once a head is closed
abbrev pub slots_without : Table → ℕ → List HeadFields
slots_without t number = slice_set t.heads.slots.items number closed_slot

-- What is seen of a job that was refused before its first sync: a gate that was to be closed is closed or not, and that of its own
-- head is shut.
pub record IsSeenRefused (node : ℕ) (now : List ℕ) (t : Table) (p : Pending) (gate : ℕ) : Type 0 where
  pub shut : gate_open now p.head.number ≡ false
  pub own : gate ≡ p.head.number → IsTableOf node now t
  pub still_open : (gate ≡ p.head.number → ⊥) → gate_open now gate ≡ true → IsTableOf node now t
  pub closed : (gate ≡ p.head.number → ⊥) → gate_open now gate ≡ false
      → IsImageOf node now (slots_without t gate) t.blocks.next.items t.blocks.size

-- A job was refused up to its first sync, or behind it.
abbrev pub IsRefusedAt : ℕ → ℕ → Table → Pending → Contents → Bool → ℕ → Type 0
IsRefusedAt node more t p c power gate =
    (IsEarly node more t p c × (IsTrue power → IsSeenRefused node c.now t p gate)) ⊎ (IsLate node more t p c × (gate ≡ p.head.number))

-- before the first sync the table is that of what is seen, as long as the disk has power
abbrev pub IsEarlyAt : ℕ → ℕ → Table → Pending → Contents → Bool → Stage → Type 0
IsEarlyAt node more t p c power stage = IsEarly node more t p c × (IsTrue power → IsTableOf node c.now t × IsSeenAt c.now t p stage)

-- How the contents of a disk stand at a stage of a job.
abbrev pub IsStageOn : ℕ → ℕ → Table → Pending → Contents → Bool → Stage → Type 0
IsStageOn node more t p c power Close = IsEarlyAt node more t p c power Close
IsStageOn node more t p c power (WritePart block from) = IsEarlyAt node more t p c power (WritePart block from)
IsStageOn node more t p c power WriteHead = IsEarlyAt node more t p c power WriteHead
IsStageOn node more t p c power SyncHead = IsEarlyAt node more t p c power SyncHead
IsStageOn node more t p c power Open = (c ≡ at_rest c.now) × IsReady node c.now t p × IsToldReady node more c.now t p
IsStageOn node more t p c power SyncOpen = IsLate node more t p c × (IsTrue power → gate_open c.now p.head.number ≡ true)
IsStageOn node more t p c power (Ended gate synced) = IsRefusedAt node more t p c power gate × (synced ≡ true → c ≡ at_rest c.now)

-- How they stand where nothing waits, and where a change does.
abbrev pub IsOnDisk : ℕ → ℕ → Table → Option Pending → Contents → Bool → Type 0
IsOnDisk node more t None c power = (c ≡ at_rest c.now) × IsTableOf node c.now t × (more ≤ block_changes node c.now)
IsOnDisk node more t (Some p) c power = IsStageOn node more t p c power p.stage

-- no head is left that the job is to close
abbrev pub NoneCloses : Table → Type 0
NoneCloses t = (k : ℕ) → is_member t.heads.closing k ≡ false

-- a block of the body is to be written next, with the bytes from this place on
pub record IsPartNext (t : Table) (p : Pending) (block from : ℕ) : Type 0 where
  pub value : p.head.removal ≡ false
  pub count : ℕ
  pub more : count < blocks_of (length p.body.items)
  pub place : block ≡ behind_walk t.blocks.next.items p.head.first count
  pub before : from ≡ 1022 * count
  pub closed : NoneCloses t

-- the stage behind the closing of heads: the write of the first block, or of the head where the change is a removal
abbrev pub behind_closing : HeadFields → Stage
behind_closing head = if head.removal then WriteHead else WritePart head.first 0

-- the stage behind the write of a block: that of the next block on its chain, or of the head where there is none
abbrev pub behind_part : List ℕ → List ℕ → ℕ → ℕ → Stage
behind_part next body block from =
    if slice_index next block == 0 then WriteHead else WritePart (slice_index next block) (min (from + 1022) (length body))

-- What holds of a change that waits, at a stage of its job, whatever the disk tells: some heads are still to be closed, or none are
-- and so much of the body is written; once a call was refused the gate in doubt is that of its head, or of one that was to be closed.
abbrev pub IsStaged : Table → Pending → Stage → Type 0
IsStaged t p Close = (k : ℕ) × (is_member t.heads.closing k ≡ true)
IsStaged t p (WritePart block from) = IsPartNext t p block from
IsStaged t p WriteHead = NoneCloses t
IsStaged t p SyncHead = NoneCloses t
IsStaged t p Open = NoneCloses t
IsStaged t p SyncOpen = NoneCloses t
IsStaged t p (Ended gate synced) = (gate ≡ p.head.number) ⊎ (is_member t.heads.closing gate ≡ true)

-- A change waits that may be written on a disk of this node and size.
pub record IsWaiting (node size : ℕ) (t : Table) (p : Pending) : Type 0 where
  pub staged : IsStaged t p p.stage
  pub spelled : IsSpelled node size p.head
  pub short : p.head.first < 65536
  pub limit : length p.body.items ≤ 262144
  -- the calls of its job that are made, and those that are left, are no more than this
  pub few : p.made + length (calls_at t p p.stage) ≤ 131072
  -- where the head is opened by the next call, or is open, a call was made already
  pub later : (p.stage ≡ Open → 1 ≤ p.made) × (p.stage ≡ SyncOpen → 1 ≤ p.made)

-- Where no change waits, no removal waits for the end of a job; and one that waits may be written.
abbrev pub AreStaged : ℕ → ℕ → Table → Option Pending → Type 0
AreStaged node size t None = (k : ℕ) → is_member t.heads.lone k ≡ false
AreStaged node size t (Some p) = IsWaiting node size t p

-- the bytes that the write of a block has: the number of the next one, and a part of the body
abbrev pub part_bytes : Table → Pending → ℕ → ℕ → List ℕ
part_bytes t p block from = to_be_bytes w16 (slice_index t.blocks.next.items block) ++ take 1022 (drop from p.body.items)

-- a head was closed in memory
pub record IsClosedBy (old new : Table) (number : ℕ) : Type 0 where
  pub items : new.heads.slots.items ≡ slice_set old.heads.slots.items number closed_slot
  pub blocks : new.blocks ≡ old.blocks
  pub long : length new.heads.closing ≡ length old.heads.closing
  pub closing : (k : ℕ) → is_member new.heads.closing k ≡ (not (k == number) && is_member old.heads.closing k)

-- The stage behind the closing of a head: another one, or that behind the last.
abbrev pub IsBehindClosing : Table → HeadFields → Stage → Type 0
IsBehindClosing t head stage =
    ((stage ≡ Close) × ((k : ℕ) × (is_member t.heads.closing k ≡ true))) ⊎ ((stage ≡ behind_closing head) × NoneCloses t)

-- the number of the head that is closed next, 0 where none is
abbrev pub first_closed : Table → ℕ
first_closed t = first_or_zero (members_of t.heads.closing)

-- The device call of a stage.
abbrev pub stage_call : Table → Pending → Stage → DiskCall
stage_call t p Close = Write (head_place (first_closed t)) (0 ∷ [])
stage_call t p (WritePart block from) = Write (block * 1024) (part_bytes t p block from)
stage_call t p WriteHead = Write (head_place p.head.number + 1) (spelled_head (head_of p.head))
stage_call t p SyncHead = Sync
stage_call t p Open = Write (head_place p.head.number) (225 ∷ [])
stage_call t p SyncOpen = Sync
stage_call t p (Ended gate synced) = Sync

-- What comes behind it, where it was made: a stage, or none behind the last; only a closing changes the table.
abbrev pub IsNext : Table → Table → Pending → Stage → Option Stage → Type 0
IsNext old new p Close None = ⊥
IsNext old new p Close (Some stage) = IsClosedBy old new (first_closed old) × IsBehindClosing new p.head stage
IsNext old new p (WritePart block from) next = (next ≡ Some (behind_part old.blocks.next.items p.body.items block from)) × (new ≡ old)
IsNext old new p WriteHead next = (next ≡ Some SyncHead) × (new ≡ old)
IsNext old new p SyncHead next = (next ≡ Some Open) × (new ≡ old)
IsNext old new p Open next = (next ≡ Some SyncOpen) × (new ≡ old)
IsNext old new p SyncOpen next = (next ≡ None) × (new ≡ old)
IsNext old new p (Ended gate synced) next = Unit {0}

-- the head whose gate tells what a refused call of this stage left, by its number
abbrev pub gate_of : Table → Pending → Stage → ℕ
gate_of t p Close = first_closed t
gate_of t p (WritePart block from) = p.head.number
gate_of t p WriteHead = p.head.number
gate_of t p SyncHead = p.head.number
gate_of t p Open = p.head.number
gate_of t p SyncOpen = p.head.number
gate_of t p (Ended gate synced) = p.head.number

-- whether a job goes on at this stage, no call of it refused
abbrev pub is_going : Stage → Bool
is_going Close = true
is_going (WritePart block from) = true
is_going WriteHead = true
is_going SyncHead = true
is_going Open = true
is_going SyncOpen = true
is_going (Ended gate synced) = false

-- where the first sync is the next call, the room is told on what is seen, with the change and without it
abbrev pub TellsBehindSync : ℕ → ℕ → Table → Pending → Contents → Stage → Type 0
TellsBehindSync node more t p c Close = Unit {0}
TellsBehindSync node more t p c (WritePart block from) = Unit {0}
TellsBehindSync node more t p c WriteHead = Unit {0}
TellsBehindSync node more t p c SyncHead = IsToldReady node more c.now t p
TellsBehindSync node more t p c Open = Unit {0}
TellsBehindSync node more t p c SyncOpen = Unit {0}
TellsBehindSync node more t p c (Ended gate synced) = Unit {0}

-- What a settling leaves of the table by what a gate says: the change made, or not, and then a head closed or not.
abbrev pub settled_slots : Table → Pending → ℕ → Bool → List HeadFields
settled_slots t p gate opened =
    if gate == p.head.number then (if opened then slice_set t.heads.slots.items p.head.number p.head else t.heads.slots.items)
    else (if opened then t.heads.slots.items else slots_without t gate)

-- what a settling picks by a gate: New where it is the change's own and open, and Old in any other case
abbrev pub settled_pick : Pending → ℕ → Bool → Pick
settled_pick p gate opened = if gate == p.head.number && opened then New else Old

-- a settling left this table and this pick, by what a gate said: no chain changes, and no removal waits for a job's end
pub record IsSettledBy (old new : Table) (p : Pending) (gate : ℕ) (opened : Bool) (found : Pick) : Type 0 where
  pub items : new.heads.slots.items ≡ settled_slots old p gate opened
  pub next : new.blocks.next ≡ old.blocks.next
  pub size : new.blocks.size ≡ old.blocks.size
  pub lone : (k : ℕ) → is_member new.heads.lone k ≡ false
  pub pick : found ≡ settled_pick p gate opened

-- Another head than that of the change is free.
abbrev pub FreeBeside : Table → Pending → Type 0
FreeBeside t p = (j : ℕ) × (j < length t.heads.slots.items) × (is_open (slot_at t.heads.slots.items j) ≡ false) × (j ≡ p.head.number → ⊥)

-- What lets the room be told behind a change: the sequences reach, the change has room, and another head is free or is closed before.
pub record IsTelling (node more : ℕ) (t : Table) (p : Pending) : Type 0 where
  pub sequence : more ≤ 2 ^ 63 - p.head.sequence
  pub own : IsOwn node p.head.uid (size_of (change_of p).body)
  pub eject : p.head.removal ≡ true → 1 ≤ p.head.uid.epoch
  pub room : p.head.removal ≡ false → t.blocks.needed + (blocks_of p.head.size + spare p.head.uid) ≤ data_count t.blocks.size
  pub free : FreeBeside t p ⊎ ((k : ℕ) × (is_member t.heads.closing k ≡ true))

-- Behind a change of this uid the room goes on being told: it is not the reserved one, or what is kept lets it.
abbrev pub TellsBehind : ℕ → Kept → Uid → Type 0
TellsBehind node kept uid = (uid ≢ reserved_uid node) ⊎ KeepsTelling node kept

-- the same by memory: the uid is that of an Eject, no block is taken, or a value is known under the reserved uid
abbrev pub goes_on_telling : Table → ℕ → Uid → Bool
goes_on_telling t node uid = not (uid.epoch == 0) || ((t.blocks.needed == 0) || is_some (keeper t (reserved_uid node)))

-- For so many more changes the room is told behind a change: the first value under the reserved uid, put once others are kept, may
-- take the last block, and ends it.
abbrev pub changes_behind : Table → ℕ → ℕ → Uid → ℕ
changes_behind t node more uid = if goes_on_telling t node uid then more - 1 else 0

-- What holds of a store at each moment.
pub record IsStore (tells : Bool) (node size more : ℕ) (counts : Counts) (told : Told) (t : Table) (pending : Option Pending) : Type 0 where
  pub held : IsHeld size counts t pending
  pub staged : AreStaged node size t pending
  pub on : IsTrue tells → IsOnDisk node more t pending (contents told) counts.power
  -- the change that waits gives its uid a mark of its own
  pub fresh : IsTrue tells
      → IfSome pending (λ (p : Pending). IsFresh (change_of p) (kept_or_none
      (kept_in_blocks (contents told).now (Ok (heads_in t.heads.slots.items)))))
  -- and the room goes on being told behind it
  pub telling : IsTrue tells → IfSome pending (IsTelling node more t)
  pub first : IsTrue tells → IfSome pending (λ (p : Pending). 1 ≤ more
      → TellsBehind node (kept_or_none (kept_in_blocks (contents told).now (Ok (heads_in t.heads.slots.items)))) p.head.uid)
