-- What a sum leaves, item by item.
use Rattle.std.proofs.Common.{◌≡◌, ◌+◌, ◌-◌, ℕ, List, [], ◌∷◌, Option, None, Some, arith, fold, sum_by}
use Rattle.std.specs.List.{cons_option}
use Rattle.eden_model.specs.Map.{with_item}

sum-from : {X : Type 0} (f : X → ℕ) (a : ℕ) (xs : List X) → fold (λ n x. n + f x) a xs ≡ a + sum_by f xs
sum-from f a [] = omega arith
sum-from f a (x ∷ xs) = omega (arith, sum-from f (a + f x) xs, sum-from f (0 + f x) xs)

-- one more item takes its part
pub left-step : {X : Type 0} (f : X → ℕ) (o : Option X) (left used : ℕ) (xs : List X) → used ≡ with_item o f 0
    → (left - used) - sum_by f xs ≡ left - sum_by f (cons_option o xs)
left-step f None left used xs is = let none : used ≡ 0 = is in omega (arith, none)
left-step f (Some x) left used xs is = let some : used ≡ f x = is in
    let all : fold (λ n y. n + f y) (0 + f x) xs ≡ (0 + f x) + sum_by f xs = sum-from f (0 + f x) xs in
    omega (arith, some, all)
