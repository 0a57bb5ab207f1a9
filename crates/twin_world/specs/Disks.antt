-- The disks of a script: those that keep nothing, and those that were overwritten with zeros.
use Rattle.std.specs.Prelude.{◌≡◌, ℕ, ◌+◌, ◌-◌, ◌<◌, ◌^◌, List, [], ◌∷◌, replicate, slice_get, Some, Ok}
use Rattle.std.specs.FinMap as map
use Rattle.eden_disk.specs.Told.{Told}
use Rattle.passive_store.specs.Kept.{Kept, Layout}
use Rattle.passive_store.specs.Seen.{DiskSeen}
use Rattle.twin_store.specs.Footings.{Standing, IsFooted}
use Rattle.twin_world.specs.Commands.{IsDisk, node_of_disk}

-- A disk keeps nothing as one of node n: in each image that a crash may leave of it, no body is found.
pub record KeepsNothing (layout : Layout) (n : ℕ) (told : Told) : Type 0 where
  pub kept : Kept
  pub none : kept.bodies ≡ map.empty
  pub stands : IsFooted layout n (Standing kept []) told

-- so it is with each of these disks, as one of its node
abbrev pub KeepNothing : Layout → List DiskSeen → Type 0
KeepNothing layout disks =
    (d : ℕ) (disk : DiskSeen) → IsDisk d → slice_get disks (d - 1) ≡ Some disk → KeepsNothing layout (node_of_disk d) disk.told

-- An image of zeros keeps nothing, if it can be opened at all.
abbrev pub ZerosKeepNothing : Layout → Type 0
ZerosKeepNothing layout = (n size : ℕ) (kept : Kept) → layout.map_of n (replicate size 0) ≡ Ok kept → kept.bodies ≡ map.empty

-- the count of faults of each of these disks can rise so often, and does not come to its end
abbrev pub CanRise : ℕ → List DiskSeen → Type 0
CanRise k [] = Unit {0}
CanRise k (d ∷ ds) = (d.counts.faults + k < 2 ^ 64 - 1) × CanRise k ds
