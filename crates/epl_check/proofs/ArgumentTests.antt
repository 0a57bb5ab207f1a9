-- The tests of a built-in function's arguments, one by one.
use Rattle.std.proofs.Common.{◌≡◌, ℕ, zero, suc, Bool, true, [], ◌∷◌, refl}
use Rattle.eden_value.specs.Shape.{Shape}
use Rattle.epl_check.specs.View.{passes_at, at_place}

pub one_test : (t : Shape → Bool) (i : ℕ) (s : Shape) → at_place i (t s) true true ≡ passes_at (t ∷ []) i s
one_test t zero s = refl
one_test t (suc zero) s = refl
one_test t (suc (suc zero)) s = refl
one_test t (suc (suc (suc i))) s = refl

pub two_tests : (t u : Shape → Bool) (i : ℕ) (s : Shape) → at_place i (t s) (u s) true ≡ passes_at (t ∷ u ∷ []) i s
two_tests t u zero s = refl
two_tests t u (suc zero) s = refl
two_tests t u (suc (suc zero)) s = refl
two_tests t u (suc (suc (suc i))) s = refl

pub three_tests : (t u v : Shape → Bool) (i : ℕ) (s : Shape) → at_place i (t s) (u s) (v s) ≡ passes_at (t ∷ u ∷ v ∷ []) i s
three_tests t u v zero s = refl
three_tests t u v (suc zero) s = refl
three_tests t u v (suc (suc zero)) s = refl
three_tests t u v (suc (suc (suc i))) s = refl

pub past_three : (i : ℕ) (a b c : Bool) → (i ≡ 0 → ⊥) → (i ≡ 1 → ⊥) → (i ≡ 2 → ⊥) → true ≡ at_place i a b c
past_three zero a b c h k l = absurd (h refl)
past_three (suc zero) a b c h k l = absurd (k refl)
past_three (suc (suc zero)) a b c h k l = absurd (l refl)
past_three (suc (suc (suc i))) a b c h k l = refl
