-- What an opening has read of a disk so far, and what it finds there.
use Rattle.std.specs.Prelude.{◌≡◌, ◌≤◌, ◌+◌, ◌-◌, ◌/◌, ◌&&◌, not, ℕ, Bool, true, false, List, length, map, filter, sum_by}
use Rattle.std.specs.Prelude.{take, drop, ◌<◌}
use Rattle.std.specs.Prelude.{Result, Ok, Err, slice_index}
use Rattle.block_tables.specs.declared.heads.HeadFields.{HeadFields}
use Rattle.passive_store.specs.declared.store.StoreRefusal.{StoreRefusal}
use Rattle.passive_store.specs.declared.store.StoreRefusal.TheVariants.{Failed, Stopped, Full, Damaged, OutOfMemory}
use Rattle.block_tables.specs.declared.table.Table.{Table}
use Rattle.block_tables.specs.declared.head_table.HeadTable.{HeadTable}
use Rattle.block_tables.specs.declared.block_table.BlockTable.{BlockTable}
use Rattle.block_tables.specs.Members.{is_member}
use Rattle.block_tables.specs.Blocks.{Head, has, without, blocks_of, is_data, data_count, chain_of}
use Rattle.block_tables.specs.HeadSeen.{head_of}
use Rattle.block_tables.specs.HeadState.{slot_at, entry_at, is_open, is_it}
use Rattle.block_tables.specs.BlockState.{AreBlocks, walk, free_in}
use Rattle.passive_blocks.specs.HeldState.{AreApart, times, one_if, behind_walk, chain_by}
use Rattle.block_tables.specs.TableState.{IsTable}

-- whether the head under a number counts
abbrev pub is_latest : Table → ℕ → Bool
is_latest t k = is_it k (entry_at t.heads.index (slot_at t.heads.slots.items k).uid).latest

-- What holds of the heads that were read: no two have one sequence, and those that do not count are to be closed.
pub record AreCounted (t : Table) : Type 0 where
  pub table : IsTable t
  pub apart : AreApart t.heads.slots.items
  pub closing : (k : ℕ) → is_member t.heads.closing k ≡ (is_open (slot_at t.heads.slots.items k) && not (is_latest t k))
  pub lone : (k : ℕ) → is_member t.heads.lone k ≡ false

-- The heads below a number were read. These are their sequences.
pub record AreReadTo (t : Table) (before : List ℕ) (n : ℕ) : Type 0 where
  pub counted : AreCounted t
  pub ahead : (k : ℕ) → n ≤ k → is_open (slot_at t.heads.slots.items k) ≡ false
  pub known : (k : ℕ) → is_open (slot_at t.heads.slots.items k) ≡ true → has (slot_at t.heads.slots.items k).sequence before ≡ true

-- how many heads are read: all, or those up to the first that is damaged
abbrev pub heads_read : ℕ → Result (List Head) ℕ → ℕ
heads_read count (Ok heads) = count
heads_read count (Err place) = (place - 1024) / 32 + 1

-- Blocks were taken from those that were free, and each names the one behind it.
pub record AreTaken (b0 b : BlockTable) (first : ℕ) (taken : List ℕ) : Type 0 where
  pub blocks : AreBlocks b
  pub size : b.size ≡ b0.size
  pub free : free_in b ≡ without taken (free_in b0)
  pub places : (k : ℕ) → one_if (is_member b.free k) + times k taken ≡ one_if (is_member b0.free k)
  pub others : (k : ℕ) → has k taken ≡ false → slice_index b.next.items k ≡ slice_index b0.next.items k
  pub chain : walk b.next.items first (length taken) ≡ taken

-- A chain was followed, to its end or to where it is damaged. The number is that of the reads.
pub record IsFollowed (b0 b : BlockTable) (value : HeadFields) (whole : Bool) (made : ℕ) : Type 0 where
  pub taken : List ℕ
  pub reads : made ≡ length taken
  pub needed : b.needed ≡ b0.needed
  pub are : whole ≡ true → AreTaken b0 b value.first taken
  pub long : whole ≡ true → length taken ≡ blocks_of value.size
  pub ends : whole ≡ true → behind_walk b.next.items value.first (blocks_of value.size) ≡ 0

-- the chain of this value on an image is the one that was followed, with as many blocks as there were reads
abbrev pub IsChainOn : List ℕ → BlockTable → BlockTable → HeadFields → Bool → ℕ → Type 0
IsChainOn image b0 b value whole made =
    chain_of image (free_in b0) (head_of value) ≡ record {
      head = head_of value;
      blocks = walk b.next.items value.first made;
      whole =
          whole;
    }

-- A chain was followed to its end, and its value is kept. The number is that of the reads.
pub record IsChainRead (b0 b : BlockTable) (value : HeadFields) (made : ℕ) : Type 0 where
  pub taken : List ℕ
  pub reads : made ≡ length taken
  pub are : AreTaken b0 b value.first taken
  pub long : length taken ≡ blocks_of value.size
  pub ends : behind_walk b.next.items value.first (blocks_of value.size) ≡ 0
  pub needed : b.needed ≡ b0.needed + blocks_of value.size
  pub room : b.needed + length (free_in b) ≤ data_count b.size

-- what an image says of a chain that was followed, or found damaged
abbrev pub ChainRead : List ℕ → BlockTable → BlockTable → HeadFields → Result (Unit {0}) StoreRefusal → ℕ → Type 0
ChainRead image b0 b value (Ok done) made = IsChainOn image b0 b value true made
ChainRead image b0 b value (Err Failed) made = 1 ≤ made
ChainRead image b0 b value (Err Stopped) made = 1 ≤ made
ChainRead image b0 b value (Err Full) made = Unit {0}
ChainRead image b0 b value (Err (Damaged place)) made = ((chain_of image (free_in b0) (head_of value)).whole ≡ false)
    × (made ≡ length (chain_of image (free_in b0) (head_of value)).blocks)
ChainRead image b0 b value (Err OutOfMemory) made = Unit {0}

-- the head under its number keeps a value
abbrev pub keeps_value : HeadTable → HeadFields → Bool
keeps_value h slot = is_open slot && (is_it slot.number (entry_at h.index slot.uid).latest && not slot.removal)

-- the heads that keep values among the first so many
abbrev pub kept_to : Table → ℕ → List Head
kept_to t i = map head_of (filter (keeps_value t.heads) (take i t.heads.slots.items))

-- the heads that keep values among all but the first so many
abbrev pub kept_behind : Table → ℕ → List Head
kept_behind t i = map head_of (filter (keeps_value t.heads) (drop i t.heads.slots.items))

-- The chains of the first heads, so many, are known, and no block is on two of them.
pub record IsLinkedTo (t : Table) (i : ℕ) : Type 0 where
  pub blocks : AreBlocks t.blocks
  pub needed : t.blocks.needed ≡ sum_by (λ (h : Head). blocks_of h.size) (kept_to t i)
  pub places : (k : ℕ) → one_if (is_member t.blocks.free k) + sum_by (λ (h : Head). times k (chain_by t.blocks.next.items h)) (kept_to t i)
      ≡ one_if (is_data t.blocks.size k)
  pub room : t.blocks.needed + length (free_in t.blocks) ≤ data_count t.blocks.size
  pub ends : (k : ℕ) → k < i → keeps_value t.heads (slot_at t.heads.slots.items k) ≡ true
      → behind_walk t.blocks.next.items (slot_at t.heads.slots.items k).first (blocks_of (slot_at t.heads.slots.items k).size) ≡ 0
