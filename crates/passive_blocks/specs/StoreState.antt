-- A store over blocks: what is seen of it, by what it has in memory and by what its disk tells.
use Rattle.std.specs.Prelude.{◌≡◌, ◌+◌, ◌-◌, ◌^◌, ◌&&◌, ◌||◌, ℕ, Bool, true, false, nat_le, length, map, filter, drop, List, []}
use Rattle.std.specs.Prelude.{◌∷◌, ◌++◌, slice_index, is_some, IsSome, Option, None, Some, Result, Ok, Err, if◌then◌else◌}
use Rattle.std.specs.List.{list_any, list_all}
use Rattle.std.specs.BTreeMap.{is_at}
use Rattle.std.specs.Map.{lookup}
use Rattle.std.specs.Ordering.{eq_by_cmp}
use Rattle.capability.specs.declared.Uid.{Uid}
use Rattle.capability.specs.Uids.{uid_cmp}
use Rattle.eden_disk.specs.Told.{Told, contents}
use Rattle.eden_disk.specs.Calls.{Counts, Due}
use Rattle.passive_store.specs.declared.store.Pick.{Pick}
use Rattle.passive_store.specs.Acts.{DiskCall, Write, Sync}
use Rattle.passive_store.specs.Kept.{StoreChange, Kept, Work, Idle, Busy, Unsettled, nothing_kept, reserved_uid}
use Rattle.passive_store.specs.Seen.{Seen, disk_seen}
use Rattle.block_tables.specs.declared.heads.HeadFields.{HeadFields}
use Rattle.block_tables.specs.declared.index.IndexEntry.{IndexEntry}
use Rattle.block_tables.specs.declared.table.Table.{Table}
use Rattle.block_tables.specs.declared.block_table.BlockTable.{BlockTable}
use Rattle.passive_blocks.specs.declared.block_store.Pending.{Pending}
use Rattle.passive_blocks.specs.declared.block_store.Stage.{Stage}
use Rattle.passive_blocks.specs.declared.block_store.Stage.TheVariants.{Close, Write as WritePart, Head as WriteHead, SyncHead, Open}
use Rattle.passive_blocks.specs.declared.block_store.Stage.TheVariants.{SyncOpen}
use Rattle.passive_blocks.specs.declared.block_store.Stage.TheVariants.{Ended}
use Rattle.block_tables.specs.Members.{is_member}
use Rattle.block_tables.specs.Blocks.{Head, Chain, numbers, head_place, blocks_of, data_count, heads_of, chains_of, keeping, greatest}
use Rattle.block_tables.specs.Blocks.{kept_in_blocks}
use Rattle.block_tables.specs.Changes.{chain_writes, spelled_head, free_head}
use Rattle.block_tables.specs.HeadSeen.{head_of}
use Rattle.block_tables.specs.HeadState.{heads_in}
use Rattle.block_tables.specs.BlockState.{walk}

-- the members of a set, ascending
abbrev pub members_of : List ℕ → List ℕ
members_of ranks = filter (is_member ranks) (numbers 0 (length ranks))

-- the change that a job makes
abbrev pub change_of : Pending → StoreChange
change_of p = record {
  uid = p.head.uid;
  body = if p.head.removal then None else Some p.body.items;
  mark = p.head.sequence;
  wrote = [];
}

-- the last device calls of a job: its head is written behind its gate, and opened, with a sync behind each of the two writes
abbrev pub last_calls : HeadFields → List DiskCall
last_calls h = Write (head_place h.number + 1) (spelled_head (head_of h)) ∷ Sync ∷ Write (head_place h.number) (225 ∷ []) ∷ Sync ∷ []

-- those from the write of this block on; on it and the blocks behind it go these bytes, what is left of the body
abbrev pub calls_from : BlockTable → HeadFields → ℕ → List ℕ → List DiskCall
calls_from t h block body = chain_writes (walk t.next.items block (blocks_of (length body))) body ++ last_calls h

-- those behind the closing of heads; a removal writes no block
abbrev pub calls_behind : BlockTable → Pending → List DiskCall
calls_behind t p = if p.head.removal then last_calls p.head else calls_from t p.head p.head.first p.body.items

-- the device calls that a job has left at a stage
abbrev pub calls_at : Table → Pending → Stage → List DiskCall
calls_at t p Close = map (λ number. Write (head_place number) (0 ∷ [])) (members_of t.heads.closing) ++ calls_behind t.blocks p
calls_at t p (WritePart block from) = calls_from t.blocks p.head block (drop from p.body.items)
calls_at t p WriteHead = last_calls p.head
calls_at t p SyncHead = Sync ∷ Write (head_place p.head.number) (225 ∷ []) ∷ Sync ∷ []
calls_at t p Open = Write (head_place p.head.number) (225 ∷ []) ∷ Sync ∷ []
calls_at t p SyncOpen = Sync ∷ []
calls_at t p (Ended gate synced) = []

-- a change as work at this stage: how many calls are made and which are left, or unsettled where the job has ended
abbrev pub work_at : Table → Pending → Stage → Work
work_at t p Close = Busy (change_of p) p.made (calls_at t p Close)
work_at t p (WritePart block from) = Busy (change_of p) p.made (calls_at t p (WritePart block from))
work_at t p WriteHead = Busy (change_of p) p.made (calls_at t p WriteHead)
work_at t p SyncHead = Busy (change_of p) p.made (calls_at t p SyncHead)
work_at t p Open = Busy (change_of p) p.made (calls_at t p Open)
work_at t p SyncOpen = Busy (change_of p) p.made (calls_at t p SyncOpen)
work_at t p (Ended gate synced) = Unsettled (change_of p) synced

-- the work by the change that waits in memory and its stage; without one the store is idle
abbrev pub pending_work : Table → Option Pending → Work
pending_work t None = Idle
pending_work t (Some p) = work_at t p p.stage

-- what is seen of a store over blocks
pub record BlockState (D : Type 0) : Type 0 where
  pub device : D
  pub node : ℕ
  pub size : ℕ
  -- by its number what each open head says
  pub slots : List HeadFields
  -- the entries of the index, empty ones among them
  pub entries : List (Uid × IndexEntry)
  -- how many blocks all values take that are kept
  pub needed : ℕ
  pub work : Work
  pub picked : Option Pick
  -- for so many more changes the room is told
  pub more : ℕ

-- what an image keeps, or nothing where it is damaged
abbrev pub kept_or_none : Result Kept ℕ → Kept
kept_or_none (Ok kept) = kept
kept_or_none (Err place) = nothing_kept

-- What a store shows: the values of the heads that it knows as open, by what its disk tells of their blocks. The head of a
-- job is not among them before the job has ended.
abbrev pub state_kept : {D : Type 0} → (D → Told) → BlockState D → Kept
state_kept told s = kept_or_none (kept_in_blocks (contents (told s.device)).now (Ok (heads_in s.slots)))

-- the index has an entry for a uid, so that none has to be made
abbrev pub HasEntry : List (Uid × IndexEntry) → Uid → Type 0
HasEntry entries uid = IsSome (lookup (is_at (uid_cmp uid)) entries)

-- what a change gives its uid: these bytes, or nothing where it is a removal
abbrev pub body_asked : Bool → List ℕ → Option (List ℕ)
body_asked removal bytes = if removal then None else Some bytes

-- For so many more changes the room is told, with these open heads and so many blocks that the kept values take.
abbrev pub changes_known : ℕ → ℕ → List Head → ℕ
changes_known size needed heads =
    if is_some (free_head size heads) && nat_le 1 (data_count size - needed) then 2 ^ 63 - greatest heads else 0

-- this store as each store is seen, by what its disk counts, tells and has due; it notes no place of a refused write
abbrev pub block_seen : {D : Type 0} → (D → Counts) → (D → Told) → (D → Due) → BlockState D → Seen
block_seen counts told due s = record {
  node = s.node;
  work = s.work;
  picked = s.picked;
  kept = state_kept told s;
  more = s.more;
  refused_at = None;
  disk = disk_seen counts told due s.device;
}

-- the whole chain of a head, on the blocks that memory has for it
abbrev pub chain_in : List ℕ → Head → Chain
chain_in next h = record { head = h; blocks = walk next h.first (blocks_of h.size); whole = true }

-- The open heads of an image are those in these slots, and the chains of what they keep are those that memory has.
pub record IsImageOf (node : ℕ) (image : List ℕ) (slots : List HeadFields) (next : List ℕ) (size : ℕ) : Type 0 where
  pub format : slice_index image 1 ≡ 235
  pub long : length image ≡ size
  pub heads : heads_of node image ≡ Ok (heads_in slots)
  pub chains : chains_of image (heads_in slots) ≡ map (chain_in next) (keeping (heads_in slots))

-- The heads and blocks in memory are those of an image.
abbrev pub IsTableOf : ℕ → List ℕ → Table → Type 0
IsTableOf node image t = IsImageOf node image t.heads.slots.items t.blocks.next.items t.blocks.size
