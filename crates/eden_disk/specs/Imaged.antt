-- An image in two parts, of each of which memory holds a front.
use Rattle.std.specs.Prelude.{ℕ, ◌≡◌, ◌+◌, ◌-◌, ◌/◌, ◌≤◌, List, length, nat_lt, if◌then◌else◌}
use Rattle.eden_disk.specs.Fronts.{Fronted}

-- What an image in memory shows: all its bytes, and up to where they can be written.
pub record Imaged : Type 0 where
  pub bytes : List ℕ
  pub reach : ℕ

-- memory reaches into the second part where it reaches all of the first one
abbrev pub reach_of : Fronted → Fronted → ℕ
reach_of first rest = if nat_lt first.reach (length first.bytes) then first.reach else length first.bytes + rest.reach

-- The first part is one of thirty-two of the whole, rounded down, and the second one is the rest.
-- Of neither can more be written than there is.
pub record IsParted (size : ℕ) (first rest : Fronted) : Type 0 where
  pub first_long : length first.bytes ≡ size / 32
  pub rest_long : length rest.bytes ≡ size - size / 32
  pub first_within : first.reach ≤ length first.bytes
  pub rest_within : rest.reach ≤ length rest.bytes
