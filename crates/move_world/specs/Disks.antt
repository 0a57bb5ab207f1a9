-- The disks of a world: those that keep nothing, and what stands where none was opened.
use Rattle.std.specs.Prelude.{◌≡◌, ℕ, ◌-◌, List, Option, None, Some, slice_get}
use Rattle.std.specs.FinMap as map
use Rattle.eden_disk.specs.Told.{Told}
use Rattle.passive_store.specs.Kept.{Kept, Layout, Idle, LeavesKept}
use Rattle.passive_store.specs.Seen.{Seen, DiskSeen}
use Rattle.move_world.specs.Commands.{IsNode}
use Rattle.move_world.specs.Seats.{Standing, Serving, Resting, Away, standing}
use Rattle.move_world.specs.declared.seat.Seat.{Seat}

-- A disk keeps nothing as one of node n: each image that a crash may leave of it can be opened, and no body is found there.
pub record KeepsNothing (layout : Layout) (n : ℕ) (told : Told) : Type 0 where
  pub kept : Kept
  pub more : ℕ
  pub none : kept.bodies ≡ map.empty
  pub stands : LeavesKept layout n more kept Idle told

-- so it is with each of these disks, by the number of its node
abbrev pub KeepNothing : Layout → List DiskSeen → Type 0
KeepNothing layout disks = (n : ℕ) (d : DiskSeen) → IsNode n → slice_get disks (n - 1) ≡ Some d → KeepsNothing layout n d.told

-- the disk at a place, if there is one
abbrev pub disk_at : Standing → Option DiskSeen
disk_at (Serving m) = Some m.seen.disk
disk_at (Resting d) = Some d
disk_at Away = None

-- the same, by what is seen of stores and of disks
abbrev pub shown_in : {T D : Type 0} → (T → Seen) → (D → DiskSeen) → Seat T D → Option DiskSeen
shown_in seen look s = disk_at (standing seen look s)
