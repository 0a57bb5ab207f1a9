-- The heads and blocks of a disk in memory.
use Rattle.std.specs.Prelude.{◌≡◌, ◌+◌, ◌-◌, ◌/◌, ◌≤◌, ◌==◌, ◌||◌, ℕ, Bool, nat_le, length, map, take, List}
use Rattle.std.specs.Prelude.{[]}
use Rattle.std.specs.Prelude.{Option, None, Some, if◌then◌else◌}
use Rattle.capability.specs.declared.Uid.{Uid}
use Rattle.block_tables.specs.declared.heads.HeadFields.{HeadFields}
use Rattle.block_tables.specs.declared.table.Table.{Table}
use Rattle.block_tables.specs.declared.block_table.BlockTable.{BlockTable}
use Rattle.block_tables.specs.Greatest.{peak}
use Rattle.block_tables.specs.Blocks.{data_count, blocks_of}
use Rattle.block_tables.specs.HeadState.{AreHeads, kept_slot, entry_at, slot_at, is_lone}
use Rattle.block_tables.specs.BlockState.{AreBlocks, AreDataIn, walk, free_in}

-- What holds of the heads and blocks in memory at any moment.
pub record IsTable (t : Table) : Type 0 where
  pub heads : AreHeads t.heads
  pub blocks : AreBlocks t.blocks
  pub count : length t.heads.slots.items ≡ t.blocks.size / 1024

-- the head that keeps a value under a uid
abbrev pub keeper : Table → Uid → Option HeadFields
keeper t uid = kept_slot t.heads.slots.items (entry_at t.heads.index uid).latest

-- the greatest sequence of an open head, 0 where none is open
abbrev pub greatest_in : Table → ℕ
greatest_in t = peak (map (λ (slot : HeadFields). slot.sequence) t.heads.slots.items)

-- how many data blocks the kept values leave
abbrev pub left_in : Table → ℕ
left_in t = data_count t.blocks.size - t.blocks.needed

-- the sequence of a head, where there is one
abbrev pub sequence_of : Option HeadFields → Option ℕ
sequence_of None = None
sequence_of (Some slot) = Some slot.sequence

-- how many blocks a value under a uid has to leave: one, and none under the reserved uid
abbrev pub spare : Uid → ℕ
spare uid = if uid.epoch == 0 then 0 else 1

-- a removal finds room; a value of this size does where the kept values leave its blocks and what has to be spared
abbrev pub fits_in : Table → Uid → Bool → ℕ → Bool
fits_in t uid removal size = removal || nat_le (blocks_of size + spare uid) (left_in t)

-- The value of this head is kept on the blocks: its chain is of blocks for data, and they are among those that are needed.
pub record IsKeptOn (b : BlockTable) (h : HeadFields) : Type 0 where
  pub chain : AreDataIn b.size (walk b.next.items h.first (blocks_of h.size))
  pub needed : blocks_of h.size ≤ b.needed

-- how many blocks the value of a head takes, 0 where there is no head
abbrev pub blocks_kept : Option HeadFields → ℕ
blocks_kept None = 0
blocks_kept (Some h) = blocks_of h.size

-- the blocks of the value of a head, in the order of its chain; none where there is no head
abbrev pub blocks_under : BlockTable → Option HeadFields → List ℕ
blocks_under b None = []
blocks_under b (Some h) = walk b.next.items h.first (blocks_of h.size)

-- the head under a number is a removal that is the only open head of its uid
abbrev pub stands_alone : Table → ℕ → Bool
stands_alone t k = is_lone t.heads.slots.items k (entry_at t.heads.index (slot_at t.heads.slots.items k).uid)

-- the blocks that a change takes: of those that are free the first
abbrev pub blocks_chosen : BlockTable → Bool → ℕ → List ℕ
blocks_chosen b removal size = if removal then [] else take (blocks_of size) (free_in b)
