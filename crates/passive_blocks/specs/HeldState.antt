-- What holds of a store's memory whatever its disk tells.
use Rattle.std.specs.Prelude.{◌≡◌, ◌+◌, ◌<◌, ◌≤◌, ◌==◌, ◌&&◌, ◌||◌, not, ℕ, zero, suc, Bool, true, false, length, filter, List, [], sum_by}
use Rattle.std.specs.Prelude.{slice_index}
use Rattle.std.specs.Prelude.{Option, None, Some, IfSome, IsSome, if◌then◌else◌}
use Rattle.std.specs.BTreeMap as tree
use Rattle.capability.specs.declared.Uid.{Uid}
use Rattle.capability.specs.Uids.{uid_cmp}
use Rattle.eden_disk.specs.Calls.{Counts}
use Rattle.passive_store.specs.Kept.{IsOwn}
use Rattle.block_tables.specs.declared.heads.HeadFields.{HeadFields}
use Rattle.block_tables.specs.declared.index.IndexEntry.{IndexEntry}
use Rattle.block_tables.specs.declared.table.Table.{Table}
use Rattle.passive_blocks.specs.declared.block_store.Pending.{Pending}
use Rattle.block_tables.specs.Members.{is_member}
use Rattle.block_tables.specs.Blocks.{Head, blocks_of, data_count, is_data, keeping}
use Rattle.block_tables.specs.HeadState.{heads_in, slot_at, entry_at, is_open, is_it}
use Rattle.block_tables.specs.BlockState.{walk, AreDataIn}
use Rattle.block_tables.specs.TableState.{IsTable, IsKeptOn, keeper}

-- how often a block stands among some
abbrev pub times : ℕ → List ℕ → ℕ
times k blocks = length (filter (λ b. b == k) blocks)

-- 1 where this is so, and else 0
abbrev pub one_if : Bool → ℕ
one_if true = 1
one_if false = 0

-- the block behind so many from one on
unfoldable pub behind_walk : List ℕ → ℕ → ℕ → ℕ
behind_walk next block zero = block
behind_walk next block (suc n) = behind_walk next (slice_index next block) n

-- the blocks of a head's value
abbrev pub chain_by : List ℕ → Head → List ℕ
chain_by next h = walk next h.first (blocks_of h.size)

-- how often a block stands on the chains of the values that are kept
abbrev pub times_kept : List ℕ → List Head → ℕ → ℕ
times_kept next heads k = sum_by (λ (h : Head). times k (chain_by next h)) (keeping heads)

-- the blocks of a change, by its head; a removal has none
abbrev pub blocks_planned : List ℕ → HeadFields → List ℕ
blocks_planned next h = if h.removal then [] else walk next h.first (blocks_of h.size)

-- the blocks of the change that waits, if one does
abbrev pub planned_blocks : List ℕ → Option Pending → List ℕ
planned_blocks next None = []
planned_blocks next (Some p) = blocks_planned next p.head

-- No two open heads have one sequence.
abbrev pub AreApart : List HeadFields → Type 0
AreApart slots = (j k : ℕ) → is_open (slot_at slots j) ≡ true → (slot_at slots j).sequence ≡ (slot_at slots k).sequence → j ≡ k

-- The next change closes a head that is open and does not count, or is a removal and the only open one of its uid.
abbrev pub must_close : List HeadFields → ℕ → IndexEntry → Bool
must_close slots k entry = is_open (slot_at slots k) && (not (is_it k entry.latest) || ((slot_at slots k).removal && entry.others == 0))

-- whether the next change closes the head under this number, by what the index has of its uid
abbrev pub closes_next : Table → ℕ → Bool
closes_next t k = must_close t.heads.slots.items k (entry_at t.heads.index (slot_at t.heads.slots.items k).uid)

-- A change that waits in memory: its head is a free one that is later than all others, and its blocks are for data.
pub record IsPlanned (t : Table) (p : Pending) : Type 0 where
  pub number : p.head.number < length t.heads.slots.items
  pub shut : is_open (slot_at t.heads.slots.items p.head.number) ≡ false
  pub opened : is_open p.head ≡ true
  pub later : (k : ℕ) → (slot_at t.heads.slots.items k).sequence < p.head.sequence
  pub entry : IsSome (tree.get uid_cmp t.heads.index p.head.uid)
  pub fits : p.head.removal ≡ false → t.blocks.needed + blocks_of p.head.size ≤ data_count t.blocks.size
  pub chain : p.head.removal ≡ false
      → AreDataIn t.blocks.size (walk t.blocks.next.items p.head.first (blocks_of p.head.size))
  -- behind its last block is none
  pub ends : p.head.removal ≡ false → behind_walk t.blocks.next.items p.head.first (blocks_of p.head.size) ≡ 0
  pub bytes : length p.body.items ≡ p.head.size

-- a head that may be closed: it does not count, or it is a removal and the only open one of its uid
pub record MayClose (t : Table) (k : ℕ) : Type 0 where
  pub on : k < length t.heads.slots.items
  pub opened : is_open (slot_at t.heads.slots.items k) ≡ true
  pub alone : is_it k (entry_at t.heads.index (slot_at t.heads.slots.items k).uid).latest ≡ true
      → (entry_at t.heads.index (slot_at t.heads.slots.items k).uid).others ≡ 0
  pub removal : is_it k (entry_at t.heads.index (slot_at t.heads.slots.items k).uid).latest ≡ true
      → (slot_at t.heads.slots.items k).removal ≡ true

-- What holds in memory whatever the disk tells.
pub record IsHeld (size : ℕ) (counts : Counts) (t : Table) (pending : Option Pending) : Type 0 where
  pub table : IsTable t
  pub sized : counts.size ≡ size
  pub same : t.blocks.size ≡ size
  pub apart : AreApart t.heads.slots.items
  pub kept : (uid : Uid) → IfSome (keeper t uid) (IsKeptOn t.blocks)
  -- behind the last block of a value is none
  pub ends : (uid : Uid) → IfSome (keeper t uid) (λ (h : HeadFields). behind_walk t.blocks.next.items h.first (blocks_of h.size) ≡ 0)
  pub needed : t.blocks.needed ≡ sum_by (λ (h : Head). blocks_of h.size) (keeping (heads_in t.heads.slots.items))
  -- Each block for data is free, or it stands once on the chains of what is kept and of the change that waits; and no other does.
  pub places : (k : ℕ) → one_if (is_member t.blocks.free k)
      + (times_kept t.blocks.next.items (heads_in t.heads.slots.items) k + times k (planned_blocks t.blocks.next.items pending))
      ≡ one_if (is_data size k)
  pub closing : (k : ℕ) → is_member t.heads.closing k ≡ true → MayClose t k
  -- the heads that wait for the end of a job may be closed then, and are none of those that the job closes
  pub lone : (k : ℕ) → is_member t.heads.lone k ≡ true → MayClose t k × (is_member t.heads.closing k ≡ false)
  pub all : (k : ℕ) → (is_member t.heads.lone k || is_member t.heads.closing k) ≡ closes_next t k
  pub planned : IfSome pending (IsPlanned t)

-- Each open head is of a uid of the node: that of an Eject, or the reserved one with its four bytes.
abbrev pub AreOwn : ℕ → List HeadFields → Type 0
AreOwn node slots = (k : ℕ) → is_open (slot_at slots k) ≡ true → IsOwn node (slot_at slots k).uid (slot_at slots k).size
