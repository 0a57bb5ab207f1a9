-- Disks with blocks on which the last sequence is used: no put finds room there, and so no boot brings their node up.
use Rattle.std.specs.Prelude.{◌≡◌, ◌≢◌, ◌≤◌, ◌^◌, ℕ, Bool, true, false, List, Option, Ok}
use Rattle.passive_store.specs.Kept.{Kept}
use Rattle.passive_store.specs.declared.store.Pick.{Pick}
use Rattle.block_tables.specs.Blocks.{greatest}
use Rattle.passive_blocks.specs.BlockLayout.{block_layout, block_map, format_of, heads_by}
use Rattle.journal.specs.declared.event.BootEnd.{BootEnd}
use Rattle.journal.specs.declared.event.BootEnd.TheVariants.{DiskFault, Stop, EpochsSpent, Full}
use Rattle.journal.specs.World.{Site}
use Rattle.journal.specs.Opening.{found_in, has_epoch_first, node_of}
use Rattle.journal.specs.Boots.{AllowsBoot}

-- What the image keeps can be told and brought over, it has an epoch where it keeps anything, and one of its heads has the last sequence.
pub record IsSpentImage (n : ℕ) (image : List ℕ) : Type 0 where
  pub kept : Kept
  pub map : block_map n image ≡ Ok kept
  pub opens : block_layout.is_overfull n image ≡ false
  pub epoch : has_epoch_first n (found_in block_layout n image) ≡ true
  pub last : 2 ^ 63 ≤ greatest (heads_by (format_of image) n image)

-- the node of a site began with this image: what is told of the room there, and which place is damaged, is told once
pub record BeganWith (n : ℕ) (image : List ℕ) (s : Site) : Type 0 where
  pub untold : s.node.untold ≡ (node_of block_layout (n, image)).untold
  pub damaged : s.node.damaged ≡ (node_of block_layout (n, image)).damaged

-- So each boot of such a node is full, unless a device call failed or stopped, or the last epoch is stored.
abbrev pub SpentDisksAreFull : Type 0
SpentDisksAreFull = (n : ℕ) (image : List ℕ) → IsSpentImage n image
    → (s : Site) → BeganWith n image s → (e : ℕ) (how : BootEnd) (p : Option Pick) (began : Bool) → AllowsBoot s e how p began
    → how ≢ DiskFault → how ≢ Stop → how ≢ EpochsSpent → how ≡ Full
