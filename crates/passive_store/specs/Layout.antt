-- What each layout owes to those who use it.
use Rattle.std.specs.Prelude.{◌≡◌, ℕ, ◌≤◌, ◌<◌, ◌^◌, false, true, is_some, List, length, All, None, Some, Ok, Err}
use Rattle.std.specs.Int.{w32, from_be_bytes, to_be_bytes}
use Rattle.std.specs.FinMap as map
use Rattle.capability.specs.declared.Uid.{Uid}
use Rattle.passive_store.specs.Kept.{Kept, Layout, IsOwn, reserved_uid}

-- what has to hold of a layout, whatever the node and the image
pub record IsLayout (layout : Layout) : Type 0 where
  -- an image of a size that is not allowed keeps nothing, and is damaged at its first byte
  pub sized : (node : ℕ) (image : List ℕ) → layout.allows (length image) ≡ false → layout.map_of node image ≡ Err 0
  -- what is kept is kept under uids of the node, with an epoch and a serial of 1 or more, and four bytes under the reserved one;
  -- and no body is longer than the limit
  pub own : (node : ℕ) (image : List ℕ) (kept : Kept) → layout.map_of node image ≡ Ok kept
      → (uid : Uid) (body : List ℕ) → map.get kept.bodies uid ≡ Some body
      → IsOwn node uid (length body) × (length body ≤ 262144)
  -- of an image of bytes, epochs and serials fit in four bytes, and bodies are of bytes
  pub bytes : (node : ℕ) (image : List ℕ) (kept : Kept) → layout.map_of node image ≡ Ok kept
      → All (λ byte. byte < 256) image → (uid : Uid) (body : List ℕ) → map.get kept.bodies uid ≡ Some body
      → (uid.epoch < 2 ^ 32) × (uid.serial < 2 ^ 32) × All (λ byte. byte < 256) body
  -- and what is kept under the reserved uid is how the number that it spells is written
  pub respells : (node : ℕ) (image : List ℕ) (kept : Kept) → layout.map_of node image ≡ Ok kept
      → All (λ byte. byte < 256) image → (body : List ℕ) → map.get kept.bodies (reserved_uid node) ≡ Some body
      → to_be_bytes w32 (from_be_bytes w32 body) ≡ body
  -- what is kept has a mark, and nothing else has
  pub marks : (node : ℕ) (image : List ℕ) (kept : Kept) → layout.map_of node image ≡ Ok kept
      → (uid : Uid) → is_some (map.get kept.marks uid) ≡ is_some (map.get kept.bodies uid)
  -- an image that keeps too much keeps something that can be told
  pub overfull : (node : ℕ) (image : List ℕ) → layout.is_overfull node image ≡ true → (kept : Kept) × (layout.map_of node image ≡ Ok kept)
  -- nothing is read where nothing is kept
  pub unread : layout.reading_calls None ≡ 0
  -- a disk of a size that is allowed is not opened without a device call
  pub opens : (node : ℕ) (image : List ℕ) → layout.allows (length image) ≡ true → 1 ≤ length (layout.opening_calls node image)
