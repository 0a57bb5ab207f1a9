-- The room that is left on a disk where memory was wanting.
use Rattle.std.specs.Prelude.{ℕ, ◌+◌, ◌≤◌}
use Rattle.eden_disk.specs.Told.{Told, contents, LeavesOnly}
use Rattle.passive_store.specs.Kept.{Layout}
use Rattle.journal.specs.Opening.{IsToldFor}

-- in each image that a crash may leave of the disk of node n, the room is told for all of so many changes but one
abbrev pub KeepsRoom : Layout → ℕ → ℕ → Told → Type 0
KeepsRoom layout n more told = (left : ℕ) × (more ≤ left + 1) × LeavesOnly (IsToldFor layout n left) (contents told)
