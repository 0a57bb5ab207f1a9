-- Grammars written as rules: one spelling behind another, and as many as there are.
use Rattle.std.specs.Prelude.{ℕ, List, [], ◌∷◌, ◌++◌, Option}
use Rattle.grammar.specs.Grammar.{Grammar, Then}
use Rattle.grammar.specs.Depths.{Looker, look_mapped, look_many}

infixl 10 ◌>>=◌
-- one spelling behind another, which the value of the first chooses, so that a rule is written as a block
abbrev pub ◌>>=◌ : {S A B : Type 0} → Grammar S A → (A → Grammar S B) → Grammar S B
G >>= H = Then G H

infixl 10 ◌>>◌
-- one spelling behind another, of which the second has the value
abbrev pub ◌>>◌ : {S A B : Type 0} → Grammar S A → Grammar S B → Grammar S B
G >> H = Then G (λ a. H)

-- spellings one behind another, as many as there are
pub data Row {S A : Type 0} (G : List S → A → Type 0) : List S → List A → Type 0 where
  no_more : Row G [] []
  one_more : {front back : List S} {a : A} {more : List A} → G front a → Row G back more → Row G (front ++ back) (a ∷ more)

-- ---- readers
-- fewer than so many values one behind another, while f has a value for the first symbol, behind those that were read
abbrev pub look_row : {S A K : Type 0} → (S → Option K) → Looker S A → ℕ → List A → Looker S (List A)
look_row f read count = look_many f (λ had. look_mapped (λ a. had ++ a ∷ []) read) count
