-- New blocks on a blank disk.
use Rattle.std.specs.Prelude.{◌≡◌, ◌⊎◌, ℕ, ◌+◌, ◌*◌, ◌/◌, ◌≤◌, ◌<◌, ◌==◌, false, List, length, replicate, map, slice_index}
use Rattle.eden_disk.specs.Told.{Contents, at_rest}
use Rattle.eden_disk.specs.Held.{Holds}
use Rattle.passive_blocks.specs.Fits.{Fits}
use Rattle.passive_store.specs.Acts.{DiskCall, Write}
use Rattle.block_tables.specs.Blocks.{numbers, head_place}

-- any byte may stand at a place but for those of a log and of blocks at the first two
pub record MayBlank (k b : ℕ) : Type 0 where
  pub log : k ≡ 0 → (b == 237) ≡ false
  pub format : k ≡ 1 → (b == 235) ≡ false

-- any byte but for that of a log at the first place, and that of an open head at a gate
pub record MayEmpty (size k b : ℕ) : Type 0 where
  pub log : k ≡ 0 → (b == 237) ≡ false
  pub gate : (n : ℕ) → n < size / 1024 → k ≡ head_place n → (b == 225) ≡ false

-- an image on which nothing stands, or blocks without an open head
pub record IsEmptyImage (size : ℕ) (image : List ℕ) : Type 0 where
  pub long : length image ≡ size
  pub log : (slice_index image 0 == 237) ≡ false
  pub heads : ((slice_index image 1 == 235) ≡ false) ⊎ ((n : ℕ) → n < size / 1024 → (slice_index image (head_place n) == 225) ≡ false)

-- a disk of this size, at rest, on which nothing stands
pub record IsBlankDisk (size : ℕ) (c : Contents) : Type 0 where
  pub rest : c ≡ at_rest c.now
  pub long : length c.now ≡ size
  pub log : (slice_index c.now 0 == 237) ≡ false
  pub format : (slice_index c.now 1 == 235) ≡ false

-- a disk of this size, at rest, with blocks of which no head is open
pub record IsNewBlocks (size : ℕ) (c : Contents) : Type 0 where
  pub rest : c ≡ at_rest c.now
  pub long : length c.now ≡ size
  pub format : slice_index c.now 1 ≡ 235
  pub shut : (n : ℕ) → n < size / 1024 → (slice_index c.now (head_place n) == 225) ≡ false

-- the first blocks of heads, so many, hold zeros
pub record AreCleared (size blocks : ℕ) (now : List ℕ) : Type 0 where
  pub long : length now ≡ size
  pub zeros : (k : ℕ) → 1024 ≤ k → k < 1024 * (1 + blocks) → slice_index now k ≡ 0

-- a write of zeros over each of the first blocks of heads, so many
abbrev pub clearing_calls : ℕ → List DiskCall
clearing_calls blocks = map (λ block. Write (block * 1024) (replicate 1024 0)) (numbers 1 blocks)

-- a disk whose heads are cleared, and on which nothing stands, nor on any image that a crash may leave of it
pub record IsClearedDisk (size : ℕ) (c : Contents) : Type 0 where
  pub holds : Holds (Fits MayBlank size) c
  pub cleared : AreCleared size (size / 32768) c.now
