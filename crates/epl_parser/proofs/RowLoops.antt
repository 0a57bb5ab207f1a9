-- One turn of a loop of the parser that collects what it reads is one step of its reader.
use Rattle.std.proofs.Common.{◌≡◌, ℕ, zero, suc, ◌+◌, ◌-◌, ◌<◌, List, [], ◌∷◌, ◌++◌, Option, Some, None, Ok, refl}
use Rattle.std.proofs.Common.{sym, ap, ◌∙◌, arith, add-one}
use Rattle.grammar.specs.Depths.{Look, Looker, look_then, look_both, led, look_mapped, look_here, look_if}
use Rattle.grammar.specs.Sequences.{look_row}
use Rattle.epl_syntax.specs.declared.token.Token.{Token}
use Rattle.epl_parser.specs.OneToken.{peeked}
use Rattle.epl_syntax.specs.Tree.{block_of}
use Rattle.epl_parser.specs.StatementReader.{read_statements_by, inner_block, read_statements}
use Rattle.epl_parser.proofs.Loops.{steps_on}

module _ {A K : Type 0} (f : Token → Option K) (R : Looker Token A) where
  pub row_on : (n : ℕ) (had : List A) (ts : List Token) (k : K) (a : A) (v : List Token) (whole : Look Token (List A)) → 0 < n
      → peeked f ts ≡ Some k → R ts ≡ Ok (a, v) → look_row f R n had ts ≡ whole → look_row f R (n - 1) (had ++ a ∷ []) v ≡ whole
  row_on n had ts k a v whole some h r e =
      steps_on f (λ l. look_mapped (λ x. l ++ x ∷ []) R) n had ts k (had ++ a ∷ []) v whole some h
      (ap (λ z. look_then z (λ x. look_here (had ++ x ∷ []))) r) e

  pub row_turn : (n : ℕ) (had : List A) (ts : List Token) (k : K) (whole : Look Token (List A)) → 0 < n → peeked f ts ≡ Some k
      → look_row f R n had ts ≡ whole
      → whole ≡ look_then (look_then (R ts) (λ x. look_here (had ++ x ∷ []))) (look_row f R (n - 1))
  row_turn zero had ts k whole some h e = absurd (omega arith)
  row_turn (suc n) had [] k whole some h e = absurd (cc)
  row_turn (suc n) had (t ∷ ts) k whole some h e =
      let one : suc n - 1 ≡ n = omega arith in
      sym e ∙ ap (λ o. led o (look_both (look_mapped (λ x. had ++ x ∷ []) R) (look_row f R n)) (Ok (had, t ∷ ts)) (t ∷ ts)) h
      ∙ ap (λ m. look_then (look_then (R (t ∷ ts)) (λ x. look_here (had ++ x ∷ []))) (look_row f R m)) (sym one)

-- ---- a part that may be left out
pub if_over : {A K : Type 0} (f : Token → Option K) (a : A) (R : Looker Token A) (ts : List Token) → peeked f ts ≡ None
    → look_if f a R ts ≡ Ok (a, ts)
if_over f a R [] h = refl
if_over f a R (t ∷ ts) h = ap (λ o. led o R (Ok (a, t ∷ ts)) (t ∷ ts)) h

pub if_on : {A K : Type 0} (f : Token → Option K) (a : A) (R : Looker Token A) (ts : List Token) (k : K) → peeked f ts ≡ Some k
    → look_if f a R ts ≡ R ts
if_on f a R [] k h = absurd (cc)
if_on f a R (t ∷ ts) k h = ap (λ o. led o R (Ok (a, t ∷ ts)) (t ∷ ts)) h

-- ---- the statements in a statement
pub inner_block_is : (bytes : List ℕ) (turns n d : ℕ) (ts : List Token) → 0 < n
    → inner_block bytes turns n (suc d) ts ≡ look_mapped block_of (read_statements bytes turns (n - 1) (d + 1)) ts
unfolding inner_block read_statements
inner_block_is bytes turns zero d ts some = absurd (omega arith)
inner_block_is bytes turns (suc n) d ts some =
    let one : suc n - 1 ≡ n = omega arith in
    ap (λ m. look_mapped block_of (read_statements_by bytes turns (inner_block bytes turns m (suc (suc d))) (suc d)) ts) (sym one)
    ∙ ap (λ e. look_mapped block_of (read_statements_by bytes turns (inner_block bytes turns (suc n - 1) (suc e)) e) ts) (sym (add-one d))
