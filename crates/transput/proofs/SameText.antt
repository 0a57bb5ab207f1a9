-- The comparison of texts.
use Rattle.std.proofs.Common.{◌≡◌, ℕ, List, [], ◌∷◌, nat_eq, ◌&&◌, refl, ap, ◌∙◌, arith}
use Rattle.std.specs.Cmp.Lexicographic.{pointwise}
use Rattle.std.proofs.lemmas.Bool.Decides.{nat_tests}

-- the test asks neither first
pub pointwise_swapped : (xs ys : List ℕ) → pointwise nat_eq xs ys ≡ pointwise nat_eq ys xs
pointwise_swapped [] [] = refl
pointwise_swapped [] (y ∷ ys) = refl
pointwise_swapped (x ∷ xs) [] = refl
pointwise_swapped (x ∷ xs) (y ∷ ys) =
    let e : nat_eq x y ≡ nat_eq y x = grind (arith, nat_tests) in
    ap (λ b. b && pointwise nat_eq xs ys) e ∙ ap (λ b. nat_eq y x && b) (pointwise_swapped xs ys)
