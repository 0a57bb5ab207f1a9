-- Lists as maps from the numbers of their items.
use Rattle.std.proofs.Common.{◌≡◌, ◌+◌, ◌<◌, ℕ, zero, suc, Bool, true, false, List, [], ◌∷◌, ◌++◌, map, None, refl, sym}
use Rattle.std.proofs.Common.{◌∙◌, ap}
use Rattle.std.proofs.Common.{subst, arith, slice_get, length, slice_set}
use Rattle.std.specs.Ordering.{nat_cmp, eq_by_cmp}
use Rattle.std.specs.declared.cmp.Ordering.TheVariants as ordering
use Rattle.std.specs.Cmp.{nat_cmp_is}
use Rattle.eden_model.specs.Map.{value_at, put_at, each_value}
use Rattle.eden_model.proofs.Numbers.{same-true, same-self}
use Rattle.plain_calls.specs.View.{numbered, at_number}

apart : (a b : ℕ) → (a ≡ b → ⊥) → eq_by_cmp nat_cmp a b ≡ false
apart a b other = go (eq_by_cmp nat_cmp a b) refl
  where
    go : (t : Bool) → eq_by_cmp nat_cmp a b ≡ t → eq_by_cmp nat_cmp a b ≡ false
    go true at = absurd (other (same-true a b at))
    go false at = at

none-below : {X : Type 0} (k n : ℕ) (xs : List X) → k < n → value_at nat_cmp k (numbered n xs) ≡ None
none-below k n [] lt = refl
none-below k n (x ∷ xs) lt = rw (apart k n (λ e. omega (arith, e, lt))) (none-below k (suc n) xs (omega (arith, lt)))

at-place : {X : Type 0} (k n : ℕ) (xs : List X) → value_at nat_cmp (n + k) (numbered n xs) ≡ slice_get xs k
at-place k n [] = refl
at-place zero n (x ∷ xs) = let e : n + 0 ≡ n = omega arith in rw (e, same-self n) refl
at-place (suc k) n (x ∷ xs) = let e : n + suc k ≡ suc n + k = omega arith in
    let lt : eq_by_cmp nat_cmp (n + suc k) n ≡ false = apart (n + suc k) n (λ e. omega (arith, e)) in
    rw lt (subst (λ m. value_at nat_cmp m (numbered (suc n) xs) ≡ slice_get xs k) (sym e) (at-place k (suc n) xs))

-- the item of a number
pub find-number : {X : Type 0} (k : ℕ) (xs : List X) → value_at nat_cmp k (numbered 1 xs) ≡ at_number k xs
find-number zero xs = none-below 0 1 xs (omega arith)
find-number (suc k) xs = let e : 1 + k ≡ suc k = omega arith in
    subst (λ m. value_at nat_cmp m (numbered 1 xs) ≡ slice_get xs k) e (at-place k 1 xs)

greater : (k n : ℕ) → nat_cmp (n + suc k) n ≡ ordering.Greater
greater k n = sym (nat_cmp_is (n + suc k) n ordering.Greater (omega arith))

tied : (n : ℕ) → nat_cmp n n ≡ ordering.Equal
tied n = sym (nat_cmp_is n n ordering.Equal refl)

put-behind : {X : Type 0} (k n : ℕ) (y x : X) (xs : List X) → nat_cmp (n + suc k) n ≡ ordering.Greater
    → put_at nat_cmp (n + suc k) y (numbered n (x ∷ xs)) ≡ (n, x) ∷ put_at nat_cmp (n + suc k) y (numbered (suc n) xs)
put-behind k n y x xs past = rw past refl

put-here : {X : Type 0} (n : ℕ) (y x : X) (es : List (ℕ × X)) → put_at nat_cmp n y ((n, x) ∷ es) ≡ (n, y) ∷ es
put-here n y x es = rw (tied n) refl

put-place : {X : Type 0} (k n : ℕ) (y : X) (xs : List X) → k < length xs
    → put_at nat_cmp (n + k) y (numbered n xs) ≡ numbered n (slice_set xs k y)
put-place k n y [] lt = absurd (omega (arith, lt))
put-place zero n y (x ∷ xs) lt = let e : n + 0 ≡ n = omega arith in
    subst (λ m. put_at nat_cmp m y ((n, x) ∷ numbered (suc n) xs) ≡ (n, y) ∷ numbered (suc n) xs) (sym e)
    (put-here n y x (numbered (suc n) xs))
put-place (suc k) n y (x ∷ xs) lt = let e : n + suc k ≡ suc n + k = omega arith in
    put-behind k n y x xs (greater k n) ∙ ap (λ es. (n, x) ∷ es)
    (subst (λ m. put_at nat_cmp m y (numbered (suc n) xs) ≡ numbered (suc n) (slice_set xs k y)) (sym e)
    (put-place k (suc n) y xs (omega (arith, lt))))

-- another item under a number that is there
pub put-number : {X : Type 0} (k : ℕ) (y : X) (xs : List X) → k < length xs
    → put_at nat_cmp (suc k) y (numbered 1 xs) ≡ numbered 1 (slice_set xs k y)
put-number k y xs lt = let e : 1 + k ≡ suc k = omega arith in
    subst (λ m. put_at nat_cmp m y (numbered 1 xs) ≡ numbered 1 (slice_set xs k y)) e (put-place k 1 y xs lt)

put-last : {X : Type 0} (n : ℕ) (y : X) (xs : List X)
    → put_at nat_cmp (n + length xs) y (numbered n xs) ≡ numbered n (xs ++ y ∷ [])
put-last n y [] = let e : n + 0 ≡ n = omega arith in ap (λ m. (m, y) ∷ []) e
put-last n y (x ∷ xs) = let e : n + suc (length xs) ≡ suc n + length xs = omega arith in
    put-behind (length xs) n y x xs (greater (length xs) n) ∙ ap (λ es. (n, x) ∷ es)
    (subst (λ m. put_at nat_cmp m y (numbered (suc n) xs) ≡ numbered (suc n) (xs ++ y ∷ [])) (sym e) (put-last (suc n) y xs))

-- one more item, under the next number
pub put-next : {X : Type 0} (y : X) (xs : List X) → put_at nat_cmp (length xs + 1) y (numbered 1 xs) ≡ numbered 1 (xs ++ y ∷ [])
put-next y xs = let e : 1 + length xs ≡ length xs + 1 = omega arith in
    subst (λ m. put_at nat_cmp m y (numbered 1 xs) ≡ numbered 1 (xs ++ y ∷ [])) e (put-last 1 y xs)

-- how many there are
pub length-numbered : {X : Type 0} (n : ℕ) (xs : List X) → length (numbered n xs) ≡ length xs
length-numbered n [] = refl
length-numbered n (x ∷ xs) = ap suc (length-numbered (suc n) xs)

-- each item changed
pub each-numbered : {X : Type 0} (f : X → X) (n : ℕ) (xs : List X) → each_value f (numbered n xs) ≡ numbered n (map f xs)
each-numbered f n [] = refl
each-numbered f n (x ∷ xs) = ap (λ es. (n, f x) ∷ es) (each-numbered f (suc n) xs)
