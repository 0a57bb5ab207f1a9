-- Spellings that a reader with one symbol of lookahead chooses by their first symbol.
use Rattle.std.specs.Prelude.{◌≡◌, List, [], ◌∷◌, Option, Some}
use Rattle.grammar.specs.Depths.{Placed}

-- there is a first symbol, and f has a value for it
abbrev pub BeginsBy : {S K : Type 0} → (S → Option K) → List (Placed S) → Type 0
BeginsBy f [] = ⊥
BeginsBy {S} {K} f (p ∷ ps) = (k : K) × (f p.0 ≡ Some k)
