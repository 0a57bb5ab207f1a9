-- Readers with one symbol of lookahead: steps while the first symbol chooses one.
use Rattle.std.specs.Prelude.{◌≡◌, ℕ, zero, suc, ◌≤◌, List, [], ◌∷◌, ◌++◌, length, Option, Some, refl}
use Rattle.std.proofs.Common.{sym, subst, arith, inl, inr}
use Rattle.grammar.specs.Grammar.{Then}
use Rattle.grammar.specs.Depths.{Placed, bare, Perhaps, Steps, no_step, step_on, Looker, look_both, look_many, Reads}
use Rattle.grammar.proofs.Lookers.{then_reads}
use Rattle.grammar.specs.Choices.{BeginsBy}
use Rattle.grammar.proofs.Choices.{same_reads, on_less, EndsBefore, if_reads}

-- ---- steps
to_steps : {S A : Type 0} (G : A → List S → A → Type 0) (a : A) (ps : List S) (b : A) → Perhaps a (Then (G a) (λ c. Steps G c)) ps b
    → Steps G a ps b
to_steps G a ps b (inl e) = subst (λ l. Steps G a l b) (sym e.0) (subst (λ x. Steps G a [] x) (sym e.1) no_step)
to_steps G a ps b (inr t) = subst (λ l. Steps G a l b) (sym t.whole) (step_on t.begins t.goes_on)

from_steps : {S A : Type 0} (G : A → List S → A → Type 0) (a : A) (ps : List S) (b : A) → Steps G a ps b
    → Perhaps a (Then (G a) (λ c. Steps G c)) ps b
from_steps G a ps b no_step = inl (refl, refl)
from_steps G a ps b (step_on {b = c} {front = front} {back = back} g h) = inr
    (record { front = front; back = back; first = c; whole = refl; begins = g; goes_on = h })

pub begins_longer : {S K : Type 0} (f : S → Option K) (ps qs : List (Placed S)) → BeginsBy f ps → BeginsBy f (ps ++ qs)
begins_longer f [] qs h = absurd h
begins_longer f (p ∷ ps) qs h = h

begins-length : {S K : Type 0} (f : S → Option K) (ps : List (Placed S)) → BeginsBy f ps → 1 ≤ length ps
begins-length f [] h = absurd h
begins-length f (p ∷ ps) h = omega arith

pub begins_before : {S K : Type 0} (f : S → Option K) (n : List S → Type 0) → ((s : S) (w : List S) (k : K) → f s ≡ Some k → n (s ∷ w))
    → (ps : List (Placed S)) (v : List S) → BeginsBy f ps → n (bare ps ++ v)
begins_before f n goes [] v h = absurd h
begins_before f n goes (p ∷ ps) v h = goes p.0 (bare ps ++ v) h.0 h.1

-- Whatever holds of a value (I) holds of the next. What may follow a step is what begins another, or what may follow all.
module _ {S A K : Type 0} (limit fuel : ℕ) (f : S → Option K) (I : A → Type 0) (G : A → List (S × ℕ) → A → Type 0) (n m : List S → Type 0)
    (R : A → Looker S A)
    (g : (a : A) → I a → Reads limit fuel (G a) n (R a))
    (keeps : (a : A) → I a → (ps : List (S × ℕ)) (b : A) → G a ps b → I b)
    (begins : (a : A) → I a → (ps : List (S × ℕ)) (b : A) → G a ps b → BeginsBy f ps)
    (ends : (v : List S) → m v → EndsBefore f v)
    (last : (v : List S) → m v → n v)
    (goes : (s : S) (w : List S) (k : K) → f s ≡ Some k → n (s ∷ w)) where
  follows : (b : A) → I b → (qs : List (S × ℕ)) (c : A) → Steps G b qs c → (v : List S) → m v → n (bare qs ++ v)
  follows b i qs c no_step v k = last v k
  follows b i qs c (step_on {b = d} {front = front} {back = back} p q) v k = begins_before f n goes (front ++ back) v
      (begins_longer f front back (begins b i front d p))

  step_begins : (a : A) → I a → (ps : List (S × ℕ)) (b : A) → Then (G a) (λ c. Steps G c) ps b → BeginsBy f ps
  step_begins a i ps b t = subst (λ l. BeginsBy f l) (sym t.whole) (begins_longer f t.front t.back (begins a i t.front t.first t.begins))

  pub many_reads : (count : ℕ) → count ≤ fuel → (a : A) → I a → Reads limit count (Steps G a) m (look_many f R count a)
  many_reads zero le a i = record {
    made = ([], a, no_step);
    takes = λ w b rest few e. absurd (omega arith);
    again = λ ps b p v k. omega arith;
    stops = λ w e few h. absurd (omega arith);
  }
  many_reads (suc count) le a i =
      same_reads limit (suc count) (Perhaps a (Then (G a) (λ c. Steps G c))) (Steps G a) m (look_many f R (suc count) a) (to_steps G a)
      (from_steps G a)
      (if_reads limit (suc count) f a (Then (G a) (λ c. Steps G c)) m (look_both (R a) (look_many f R count))
      (then_reads limit (suc count) count 1 (G a) (λ c. Steps G c) n m (R a) (look_many f R count)
      (on_less limit fuel (suc count) (G a) n (R a) le (g a i))
      (λ ps b p. many_reads count (omega arith) b (keeps a i ps b p))
      (λ ps b p. begins-length f ps (begins a i ps b p))
      (omega arith)
      (λ ps b p qs c h v k. follows b (keeps a i ps b p) qs c h v k))
      (step_begins a i) ends)
