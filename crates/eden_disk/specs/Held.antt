-- What holds of the contents of a disk, and of all that a crash may leave of them, through the calls of the disk.
use Rattle.std.specs.Prelude.{ℕ, List}
use Rattle.eden_disk.specs.Told.{Contents, Told, contents, LeavesOnly, EachMoment}

-- the bytes have P, and so has each image that a crash may leave
pub record Holds (P : List ℕ → Type 0) (c : Contents) : Type 0 where
  pub now : P c.now
  pub left : LeavesOnly P c

-- one step of a run: what holds before it holds after it, and at each moment between
pub record Passes (P : List ℕ → Type 0) (old new : Told) : Type 0 where
  pub after : Holds P (contents new)
  pub moments : EachMoment P old new
