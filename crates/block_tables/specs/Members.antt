-- A set of numbers below a bound, by a mark for each number: that of a member is not 0, and that of no member is 0.
use Rattle.std.specs.Prelude.{◌≡◌, ℕ, ◌<◌, Bool, true, false, nat_lt, List, length, slice_index, Option, None, Some}

-- the mark of this number is not 0; a number past the last mark is no member
abbrev pub is_member : List ℕ → ℕ → Bool
is_member marks k = nat_lt 0 (slice_index marks k)

-- the least member, or none
abbrev pub IsFirstOf : List ℕ → Option ℕ → Type 0
IsFirstOf marks None = (k : ℕ) → is_member marks k ≡ false
IsFirstOf marks (Some n) = (n < length marks) × (is_member marks n ≡ true) × ((k : ℕ) → k < n → is_member marks k ≡ false)
