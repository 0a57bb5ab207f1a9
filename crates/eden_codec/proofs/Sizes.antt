-- Sums that stay at the greatest number once they are past it.
use Rattle.std.proofs.Common.{◌≡◌, ℕ, ◌+◌, min, arith}

abbrev pub most : ℕ
most = 18446744073709551615

pub sum_of_mins : (total a b : ℕ) → min (min (total + min a most) most + b) most ≡ min (total + (a + b)) most
sum_of_mins total a b = omega arith

pub three_more : (result row size : ℕ) → result ≡ min (row + 3) most → row ≡ min size most → result ≡ min (3 + size) most
three_more result row size e f = omega (arith, e, f)
