-- How many device calls read a value.
use Rattle.std.specs.Prelude.{◌≡◌, ◌≤◌, ℕ, Result, Ok, Err}
use Rattle.eden_disk.specs.Calls.{Counts, DeviceCalls, end_of}
use Rattle.eden_disk.specs.declared.disk.DiskRefusal.{DiskRefusal}

-- So many calls were made: all of them, or some, the last of which was refused.
abbrev pub AllOrSome : {T : Type 0} → ℕ → Result T DiskRefusal → ℕ → Type 0
AllOrSome calls (Ok done) made = made ≡ calls
AllOrSome calls (Err e) made = (1 ≤ made) × (made ≤ calls)

-- the counts of a disk before and behind the reading of a value that takes so many calls
pub record ReadsMade {T : Type 0} (calls : ℕ) (result : Result T DiskRefusal) (before after : Counts) : Type 0 where
  pub made : ℕ
  pub number : AllOrSome calls result made
  pub counts : DeviceCalls made before after (end_of result)
