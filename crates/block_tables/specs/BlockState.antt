-- The blocks of a disk in memory: which of them are free, and which stands behind each on its chain.
use Rattle.std.specs.Prelude.{◌≡◌, ◌<◌, ◌≤◌, ◌/◌, ℕ, zero, suc, true}
use Rattle.std.specs.Prelude.{List, [], ◌∷◌, length, filter, slice_index}
use Rattle.block_tables.specs.declared.block_table.BlockTable.{BlockTable}
use Rattle.block_tables.specs.Blocks.{numbers, is_block_size, is_data, data_count, has}
use Rattle.block_tables.specs.Members.{is_member}

-- so many blocks from one on, each of which is behind the one before it
unfoldable pub walk : List ℕ → ℕ → ℕ → List ℕ
walk next block zero = []
walk next block (suc n) = block ∷ walk next (slice_index next block) n

-- the free blocks, ascending
abbrev pub free_in : BlockTable → List ℕ
free_in t = filter (is_member t.free) (numbers 0 (length t.free))

-- What holds of the blocks in memory at any moment: only blocks for data are free, and no chain leaves the disk.
pub record AreBlocks (t : BlockTable) : Type 0 where
  pub sized : is_block_size t.size ≡ true
  pub free : length t.free ≡ t.size / 1024
  pub next : length t.next.items ≡ t.size / 1024
  pub inside : (k : ℕ) → is_member t.free k ≡ true → is_data t.size k ≡ true
  pub short : (k : ℕ) → slice_index t.next.items k < 65536
  pub needed : t.needed ≤ data_count t.size

-- each of these is a block for data
abbrev pub AreDataIn : ℕ → List ℕ → Type 0
AreDataIn size blocks = (k : ℕ) → has k blocks ≡ true → is_data size k ≡ true

-- No block is taken.
pub record AreAllFree (b : BlockTable) : Type 0 where
  pub free : (k : ℕ) → is_member b.free k ≡ is_data b.size k
  pub needed : b.needed ≡ 0
