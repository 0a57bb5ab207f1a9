-- No loop of the parser takes all its turns.
use Rattle.std.proofs.Common.{◌≡◌, ℕ, zero, suc, ◌<◌, List, length, Option, Err, sym}
use Rattle.grammar.specs.Depths.{Look, Looker, spent, look_both, look_many, Reads}
use Rattle.grammar.specs.Sequences.{look_row}
use Rattle.epl_syntax.specs.declared.token.Token.{Token}

-- with more turns than tokens a reader does not run out of them
pub never_spent : {A : Type 0} {G : List (Token × ℕ) → A → Type 0} {m : List Token → Type 0} {R : Looker Token A} (turns : ℕ)
    → Reads 32 turns G m R → (ts : List Token) → length ts < turns → R ts ≡ Err spent → ⊥
never_spent turns r ts few e = (r.stops ts spent few e).fault

-- where no turn is left, the whole has run out of them
pub none_left : {A K : Type 0} (f : Token → Option K) (R : A → Looker Token A) (n : ℕ) (x : A) (ts : List Token) (whole : Look Token A)
    → n ≡ 0 → look_many f R n x ts ≡ whole → whole ≡ Err spent
none_left f R zero x ts whole z h = sym h
none_left f R (suc n) x ts whole z h = absurd cc

-- the same, where something is read behind
pub none_left_before : {A B K : Type 0} (f : Token → Option K) (R : A → Looker Token A) (T : A
    → Looker Token B) (n : ℕ) (x : A) (ts : List Token)
    (whole : Look Token B) → n ≡ 0 → look_both (look_many f R n x) T ts ≡ whole → whole ≡ Err spent
none_left_before f R T zero x ts whole z h = sym h
none_left_before f R T (suc n) x ts whole z h = absurd cc

-- the same of a row
pub no_row_left : {A K : Type 0} (f : Token
    → Option K) (R : Looker Token A) (n : ℕ) (had : List A) (ts : List Token) (whole : Look Token (List A))
    → n ≡ 0 → look_row f R n had ts ≡ whole → whole ≡ Err spent
no_row_left f R zero had ts whole z h = sym h
no_row_left f R (suc n) had ts whole z h = absurd cc
