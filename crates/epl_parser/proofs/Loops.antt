-- One turn of a loop of the parser is one step of its reader.
use Rattle.std.proofs.Common.{◌≡◌, ℕ, zero, suc, ◌-◌, ◌<◌, List, [], ◌∷◌, Option, Some, None, Ok, sym, ap, ◌∙◌, arith}
use Rattle.grammar.specs.Depths.{Look, Looker, look_then, look_both, led, look_many}
use Rattle.grammar.specs.Tells.{Halts}
use Rattle.grammar.specs.declared.halt.Halt.{Halt}
use Rattle.grammar.specs.declared.halt.Halt.TheVariants.{Memory, Bad, Deep}
use Rattle.epl_syntax.specs.declared.token.Token.{Token}
use Rattle.epl_parser.specs.OneToken.{peeked}

module _ {A K : Type 0} (f : Token → Option K) (R : A → Looker Token A) where
  turn : (n : ℕ) (x : A) (ts : List Token) (k : K) → 0 < n → peeked f ts ≡ Some k
      → look_many f R n x ts ≡ look_then (R x ts) (look_many f R (n - 1))
  turn zero x ts k some h = absurd (omega arith)
  turn (suc n) x [] k some h = absurd (cc)
  turn (suc n) x (t ∷ ts) k some h =
      let one : suc n - 1 ≡ n = omega arith in
      ap (λ o. led o (look_both (R x) (look_many f R n)) (Ok (x, t ∷ ts)) (t ∷ ts)) h
      ∙ ap (λ m. look_then (R x (t ∷ ts)) (look_many f R m)) (sym one)

  -- where the first symbol begins no step, the steps are over
  pub steps_over : (n : ℕ) (x : A) (ts : List Token) (whole : Look Token A) → 0 < n → peeked f ts ≡ None → look_many f R n x ts ≡ whole
      → whole ≡ Ok (x, ts)
  steps_over zero x ts whole some h e = absurd (omega arith)
  steps_over (suc n) x [] whole some h e = sym e
  steps_over (suc n) x (t ∷ ts) whole some h e = sym e ∙ ap (λ o. led o (look_both (R x) (look_many f R n)) (Ok (x, t ∷ ts)) (t ∷ ts)) h

  pub steps_on : (n : ℕ) (x : A) (ts : List Token) (k : K) (y : A) (v : List Token) (whole : Look Token A) → 0 < n → peeked f ts ≡ Some k
      → R x ts ≡ Ok (y, v) → look_many f R n x ts ≡ whole → look_many f R (n - 1) y v ≡ whole
  steps_on n x ts k y v whole some h r e = sym (ap (λ z. look_then z (look_many f R (n - 1))) r) ∙ sym (turn n x ts k some h) ∙ e

  -- what stops a step stops them all
  pub steps_halt : (n : ℕ) (x : A) (ts : List Token) (k : K) (halt : Halt) (whole : Look Token A) → 0 < n → peeked f ts ≡ Some k
      → Halts halt (R x ts) → look_many f R n x ts ≡ whole → Halts halt whole
  steps_halt n x ts k Memory whole some h r e = tt
  steps_halt n x ts k (Bad left) whole some h r e = sym e ∙ turn n x ts k some h ∙ ap (λ z. look_then z (look_many f R (n - 1))) r
  steps_halt n x ts k (Deep left) whole some h r e = sym e ∙ turn n x ts k some h ∙ ap (λ z. look_then z (look_many f R (n - 1))) r
