-- The greatest of some numbers, 0 where there are none.
use Rattle.std.specs.Prelude.{ℕ, max, List, [], ◌∷◌}

-- the greatest number of a list, 0 for an empty one
unfoldable pub peak : List ℕ → ℕ
peak [] = 0
peak (n ∷ ns) = max n (peak ns)
