-- Names, in the order of their bytes.
use Rattle.std.specs.Prelude.{ℕ, List, [], ◌∷◌}
use Rattle.std.specs.Ordering.{match_ordering, nat_cmp}
use Rattle.std.specs.Cmp.Lexicographic.{slice_cmp}

-- the names, and one more at its place, unless it is there
abbrev pub with_name : List (List ℕ) → List ℕ → List (List ℕ)
with_name [] name = name ∷ []
with_name (n ∷ names) name = match_ordering (slice_cmp nat_cmp name n) (name ∷ n ∷ names) (n ∷ names) (n ∷ with_name names name)

-- the names, and several more, each unless it is there already
abbrev pub with_names : List (List ℕ) → List (List ℕ) → List (List ℕ)
with_names names [] = names
with_names names (name ∷ more) = with_names (with_name names name) more
