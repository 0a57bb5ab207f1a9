-- A spelling with the mark of its first symbol, as the place where it stands.
use Rattle.std.specs.Prelude.{◌≡◌, ℕ, List, [], ◌∷◌}
use Rattle.grammar.specs.Grammar.{Grammar}
use Rattle.grammar.specs.Depths.{Placed, Looker, look_mapped}

-- a spelling of a value, with the mark of its first symbol
abbrev pub Marked : {S A : Type 0} → (S → ℕ) → Grammar (Placed S) A → Grammar (Placed S) (A × ℕ)
Marked mark G [] x = ⊥
Marked mark G (p ∷ ps) x = G (p ∷ ps) x.0 × (x.1 ≡ mark p.0)

-- the mark of the first symbol, 0 where there is none
abbrev pub first_mark : {S : Type 0} → (S → ℕ) → List S → ℕ
first_mark mark [] = 0
first_mark mark (s ∷ symbols) = mark s

-- a reader of a value with the mark of its first symbol
abbrev pub look_marked : {S A : Type 0} → (S → ℕ) → Looker S A → Looker S (A × ℕ)
look_marked mark read symbols = look_mapped (λ a. (a, first_mark mark symbols)) read symbols
