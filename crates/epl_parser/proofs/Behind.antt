-- Behind what is read there are no more tokens than before.
use Rattle.std.proofs.Common.{◌≡◌, ℕ, suc, ◌<◌, ◌≤◌, Bool, true, false, List, [], ◌∷◌, length, Option, Some, None, Ok}
use Rattle.std.proofs.Common.{Result, Err, ap, ◌∙◌, arith, length-append}
use Rattle.std.specs.Prelude.{nat_le, IfOk}
use Rattle.grammar.specs.Depths.{Looker, bare, fits, found_at, Reads}
use Rattle.grammar.specs.Tells.{Tells}
use Rattle.grammar.specs.declared.halt.Halt.{Halt}
use Rattle.epl_syntax.specs.declared.token.Token.{Token}
use Rattle.epl_parser.specs.OneToken.{look_one}

pub none_added : {A : Type 0} {G : List (Token × ℕ) → A → Type 0} {m : List Token → Type 0} {R : Looker Token A} (turns : ℕ)
    → Reads 32 turns G m R → (ts : List Token) (a : A) (us : List Token) → length ts < turns → R ts ≡ Ok (a, us)
    → length us ≤ length ts
none_added turns r ts a us few h =
    let t = r.takes ts a us few h in
    let split = ap length t.split ∙ length-append (bare t.front) us in
    omega (arith, split)

fits_less : {A : Type 0} (b : Bool) (x a : A) (ts us : List Token) → fits b x ts ≡ Ok (a, us) → ts ≡ us
fits_less {A} true x a ts us h = let p : ◌≡◌ {A = A × List Token} (x, ts) (a, us) = cc in ap (λ q. q.1) p
fits_less false x a ts us h = absurd cc

found_less : {A : Type 0} (place : ℕ) (o : Option A) (a : A) (ts us : List Token) → found_at 32 (λ x. place) o ts ≡ Ok (a, us) → ts ≡ us
found_less place None a ts us h = absurd cc
found_less place (Some x) a ts us h = fits_less (nat_le place 32) x a ts us h

-- one token less
pub one_less : {A : Type 0} (place : ℕ) (f : Token → Option A) (ts : List Token) (a : A) (us : List Token)
    → look_one place f ts ≡ Ok (a, us) → length ts ≡ suc (length us)
one_less place f [] a us h = absurd cc
one_less place f (t ∷ ts) a us h = ap (λ (l : List Token). suc (length l)) (found_less place (f t) a ts us h)

-- the same of what the code tells
pub behind_told : {X A : Type 0} {G : List (Token × ℕ) → A → Type 0} {m : List Token → Type 0} {R : Looker Token A} (turns : ℕ)
    (view : X → A × List Token) (r : Result X Halt) (ts : List Token) → Reads 32 turns G m R → length ts < turns → Tells view r (R ts)
    → IfOk r (λ x. length (view x).1 ≤ length ts)
behind_told turns view (Ok x) ts reads few t = none_added turns reads ts (view x).0 (view x).1 few t
behind_told turns view (Err e) ts reads few t = tt
