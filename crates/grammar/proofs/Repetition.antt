-- Repetition: readers of values in a row are exact.
use Rattle.std.specs.Prelude.{◌≡◌, ℕ, zero, suc, List, [], ◌∷◌, length, refl}
use Rattle.std.proofs.Common.{sym, subst}
use Rattle.grammar.specs.Reading.{Reader, mapped, times, counted}
use Rattle.grammar.specs.Grammar.{Grammar, Nothing, Then, Mapped, Times, Counted, Begins}
use Rattle.grammar.proofs.Grammar.{begins_times, length-times}
use Rattle.grammar.proofs.Exact.{Exact, then_exact, same_exact, nothing_exact, mapped_exact}

-- so many values
module _ {S A : Type 0} (G : Grammar S A) (R : Reader S A) (g : Exact G R) (some : Begins G []) where
  abbrev Row : ℕ → Grammar S (List A)
  Row n = Then G (λ a. Mapped (λ more. a ∷ more) (Times n G))

  to_zero : (symbols : List S) (xs : List A) → Nothing [] symbols xs → Times zero G symbols xs
  to_zero symbols [] s = s.0
  to_zero symbols (a ∷ xs) s = absurd (cc (s.1))

  from_zero : (symbols : List S) (xs : List A) → Times zero G symbols xs → Nothing [] symbols xs
  from_zero symbols [] s = (s, refl)
  from_zero symbols (a ∷ xs) s = absurd s

  to_suc : (n : ℕ) (symbols : List S) (xs : List A) → Row n symbols xs → Times (suc n) G symbols xs
  to_suc n symbols [] t = absurd (cc (t.goes_on.2))
  to_suc n symbols (a ∷ xs) t =
      let e : t.first ≡ a = cc (t.goes_on.2) in
      let f : t.goes_on.0 ≡ xs = cc (t.goes_on.2) in
      (t.front, t.back, t.whole, subst (λ x. G t.front x) e t.begins, subst (λ x. Times n G t.back x) f t.goes_on.1)

  from_suc : (n : ℕ) (symbols : List S) (xs : List A) → Times (suc n) G symbols xs → Row n symbols xs
  from_suc n symbols [] s = absurd s
  from_suc n symbols (a ∷ xs) s = record { front = s.0; back = s.1; first = a; whole = s.2; begins = s.3; goes_on = (xs, s.4, refl) }

  row_begins : (n : ℕ) (a : A) → Begins (Mapped (λ more. a ∷ more) (Times n G)) []
  row_begins n a = let u : Begins (Times n G) [] = begins_times G some n in
      record { more = u.more; value = a ∷ u.value; spelled = (u.value, u.spelled, refl) }

  pub times_exact : (n : ℕ) → Exact (Times n G) (times n R)
  times_exact zero = same_exact (Nothing []) (Times zero G) _ (nothing_exact []) to_zero from_zero
  times_exact (suc n) =
      same_exact (Row n) (Times (suc n) G) _
      (then_exact G (λ a. Mapped (λ more. a ∷ more) (Times n G)) R (λ a. mapped (λ more. a ∷ more) (times n R)) g
      (λ a. mapped_exact (λ more. a ∷ more) (Times n G) (times n R) (times_exact n)) (row_begins n))
      (to_suc n) (from_suc n)

-- the number of values, and the values
module _ {S A : Type 0} (N : Grammar S ℕ) (C : Reader S ℕ) (c : Exact N C) (G : Grammar S A) (R : Reader S A) (g : Exact G R)
    (some : Begins G []) where
  to_counted : (symbols : List S) (xs : List A) → Then N (λ n. Times n G) symbols xs → Counted N G symbols xs
  to_counted symbols xs t =
      let e : t.first ≡ length xs = sym (length-times G t.first t.back xs t.goes_on) in
      (t.front, t.back, t.whole, subst (λ n. N t.front n) e t.begins, subst (λ n. Times n G t.back xs) e t.goes_on)

  from_counted : (symbols : List S) (xs : List A) → Counted N G symbols xs → Then N (λ n. Times n G) symbols xs
  from_counted symbols xs s = record { front = s.0; back = s.1; first = length xs; whole = s.2; begins = s.3; goes_on = s.4 }

  pub counted_exact : Exact (Counted N G) (counted C R)
  counted_exact =
      same_exact (Then N (λ n. Times n G)) (Counted N G) (counted C R)
      (then_exact N (λ n. Times n G) C (λ n. times n R) c (times_exact G R g some) (begins_times G some))
      to_counted from_counted
