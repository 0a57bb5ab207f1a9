-- What a telling disk shows of what memory has.
use Rattle.std.specs.Prelude.{◌≡◌, ◌≤◌, ℕ, List, length, map}
use Rattle.block_tables.specs.declared.table.Table.{Table}
use Rattle.block_tables.specs.Blocks.{chains_of, keeping, is_data}
use Rattle.block_tables.specs.HeadState.{heads_in}
use Rattle.passive_blocks.specs.StoreState.{chain_in}
use Rattle.passive_blocks.specs.HeldState.{AreOwn, times_kept, one_if}

-- the chains on an image are those that memory has
abbrev pub HasChains : List ℕ → Table → Type 0
HasChains image t = chains_of image (heads_in t.heads.slots.items) ≡ map (chain_in t.blocks.next.items) (keeping
    (heads_in t.heads.slots.items))

-- each block on the chains of what memory keeps is one for data on this image
abbrev pub AreOnImage : List ℕ → Table → Type 0
AreOnImage image t = (k : ℕ) → times_kept t.blocks.next.items (heads_in t.heads.slots.items) k ≤ one_if (is_data (length image) k)

-- What is kept is read off an image: it is as long as the disk, all heads are of the node, and it has the chains of memory.
pub record IsShown (node : ℕ) (image : List ℕ) (t : Table) : Type 0 where
  pub long : length image ≡ t.blocks.size
  pub own : AreOwn node t.heads.slots.items
  pub chains : HasChains image t
