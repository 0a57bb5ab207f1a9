-- Bytes of which memory holds a front.
use Rattle.std.specs.Prelude.{ℕ, ◌-◌, ◌≤◌, List, ◌++◌, length}
use Rattle.eden_disk.specs.SimDisk.{zeros}

-- What is seen of bytes in memory: all of them, how many of them memory holds, and how many it can hold. Those behind
-- what it holds are zeros.
pub record Fronted : Type 0 where
  pub bytes : List ℕ
  pub held : ℕ
  pub reach : ℕ

-- what memory holds of so many bytes, with the zeros behind it
abbrev pub with_zeros : List ℕ → ℕ → List ℕ
with_zeros held size = held ++ zeros (size - length held)

-- Memory holds a front of the bytes that it can hold, which are a front of all, and has room for these.
pub record IsFront (held reach size room : ℕ) : Type 0 where
  pub held_within : held ≤ reach
  pub reach_within : reach ≤ size
  pub has_room : reach ≤ room
