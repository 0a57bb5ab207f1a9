-- The first bad place of symbols that are no spelling, for each grammar that has an exact reader.
use Rattle.std.specs.Prelude.{ℕ, suc, ◌<◌, ◌≤◌, List, length, take}
use Rattle.grammar.specs.Grammar.{Grammar, Begins}

-- The first place whose symbol no spelling with the same symbols before it has, or the length where there is none
-- and the symbols are no spelling.
pub record FirstBad {S A : Type 0} (G : Grammar S A) (symbols : List S) (place : ℕ) : Type 0 where
  pub within : place ≤ length symbols
  pub before : Begins G (take place symbols)
  pub there : place < length symbols → Begins G (take (suc place) symbols) → ⊥
  pub no_spelling : (a : A) → G symbols a → ⊥
