-- Readers written as blocks.
use Rattle.grammar.specs.Depths.{Looker, look_both}

infixl 10 ◌>>=◌
-- one reader and behind it another, which the value of the first chooses
abbrev pub ◌>>=◌ : {S A B : Type 0} → Looker S A → (A → Looker S B) → Looker S B
R >>= T = look_both R T

infixl 10 ◌>>◌
-- one reader and behind it another; the value of the first is dropped
abbrev pub ◌>>◌ : {S A B : Type 0} → Looker S A → Looker S B → Looker S B
R >> T = look_both R (λ a. T)
