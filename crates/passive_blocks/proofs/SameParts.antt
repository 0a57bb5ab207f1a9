-- Lists that have the same members at some places have the same parts there.
use Rattle.std.specs.Prelude.{◌≡◌, ℕ, suc, zero, ◌+◌, ◌≤◌, ◌<◌, List, [], ◌∷◌, length, take, drop, slice_index}
use Rattle.std.specs.Prelude.{◌++◌}
use Rattle.std.proofs.Common.{refl, sym, ap, ◌∙◌, arith}
use Rattle.std.proofs.Math.Seq.{drop-append_seam, take-append_seam}

pub same_all : (xs ys : List ℕ) → length xs ≡ length ys → ((k : ℕ) → slice_index xs k ≡ slice_index ys k) → xs ≡ ys
same_all [] [] long same = refl
same_all [] (y ∷ ys) long same = absurd (omega (arith, long))
same_all (x ∷ xs) [] long same = absurd (omega (arith, long))
same_all (x ∷ xs) (y ∷ ys) long same =
    ap (λ z. z ∷ xs) (same 0) ∙ ap (λ zs. y ∷ zs) (same_all xs ys (omega (arith, long)) (λ k. same (suc k)))

pub same_take : (n : ℕ) (xs ys : List ℕ) → length xs ≡ length ys → ((k : ℕ) → k < n → slice_index xs k ≡ slice_index ys k)
    → take n xs ≡ take n ys
same_take zero xs ys long same = refl
same_take (suc n) [] [] long same = refl
same_take (suc n) [] (y ∷ ys) long same = absurd (omega (arith, long))
same_take (suc n) (x ∷ xs) [] long same = absurd (omega (arith, long))
same_take (suc n) (x ∷ xs) (y ∷ ys) long same =
    ap (λ z. z ∷ take n xs) (same 0 (omega arith))
    ∙ ap (λ zs. y ∷ zs) (same_take n xs ys (omega (arith, long)) (λ k below. same (suc k) (omega (arith, below))))

pub same_drop : (n : ℕ) (xs ys : List ℕ) → length xs ≡ length ys → ((k : ℕ) → n ≤ k → slice_index xs k ≡ slice_index ys k)
    → drop n xs ≡ drop n ys
same_drop zero xs ys long same = same_all xs ys long (λ k. same k (omega arith))
same_drop (suc n) [] [] long same = refl
same_drop (suc n) [] (y ∷ ys) long same = absurd (omega (arith, long))
same_drop (suc n) (x ∷ xs) [] long same = absurd (omega (arith, long))
same_drop (suc n) (x ∷ xs) (y ∷ ys) long same =
    same_drop n xs ys (omega (arith, long)) (λ k from. same (suc k) (omega (arith, from)))

-- so many from a place on
pub same_part : (from n : ℕ) (xs ys : List ℕ) → length xs ≡ length ys
    → ((k : ℕ) → from ≤ k → k < from + n → slice_index xs k ≡ slice_index ys k) → take n (drop from xs) ≡ take n (drop from ys)
same_part zero n xs ys long same = same_take n xs ys long (λ k below. same k (omega arith) (omega (arith, below)))
same_part (suc from) n [] [] long same = refl
same_part (suc from) n [] (y ∷ ys) long same = absurd (omega (arith, long))
same_part (suc from) n (x ∷ xs) [] long same = absurd (omega (arith, long))
same_part (suc from) n (x ∷ xs) (y ∷ ys) long same =
    same_part from n xs ys (omega (arith, long)) (λ k above below. same (suc k) (omega (arith, above)) (omega (arith, below)))

-- all from a place on, of the first so many
pub same_behind : (n m : ℕ) (xs ys : List ℕ) → length xs ≡ length ys → ((k : ℕ) → n ≤ k → slice_index xs k ≡ slice_index ys k)
    → drop n (take m xs) ≡ drop n (take m ys)
same_behind zero m xs ys long same = same_take m xs ys long (λ k below. same k (omega arith))
same_behind (suc n) zero xs ys long same = refl
same_behind (suc n) (suc m) [] [] long same = refl
same_behind (suc n) (suc m) [] (y ∷ ys) long same = absurd (omega (arith, long))
same_behind (suc n) (suc m) (x ∷ xs) [] long same = absurd (omega (arith, long))
same_behind (suc n) (suc m) (x ∷ xs) (y ∷ ys) long same =
    same_behind n m xs ys (omega (arith, long)) (λ k from. same (suc k) (omega (arith, from)))

drop_none : {A : Type 0} → (n : ℕ) (xs : List A) → xs ≡ [] → drop n xs ≡ []
drop_none zero xs none = none
drop_none (suc n) [] none = refl
drop_none (suc n) (x ∷ xs) none = absurd (cc none)

drop_at : {A : Type 0} → (a b : ℕ) (xs : List A) → a ≡ b → drop a xs ≡ drop b xs
drop_at a b xs same = ap (λ k. drop k xs) same

pub drop_more : {A : Type 0} → (m n : ℕ) (xs : List A) → drop n (drop m xs) ≡ drop (m + n) xs
drop_more zero n xs = drop_at n (0 + n) xs (omega arith)
drop_more (suc m) n [] = drop_none n [] refl ∙ sym (drop_none (suc m + n) [] refl)
drop_more (suc m) n (x ∷ xs) = drop_more m n xs ∙ drop_at (suc (m + n)) (suc m + n) (x ∷ xs) (omega arith)

pub drop_front : {A : Type 0} → (n : ℕ) (xs ys : List A) → n ≡ length xs → drop n (xs ++ ys) ≡ ys
drop_front n xs ys is = drop_at n (length xs) (xs ++ ys) is ∙ drop-append_seam xs ys

pub take_front : {A : Type 0} → (n : ℕ) (xs ys : List A) → n ≡ length xs → take n (xs ++ ys) ≡ xs
take_front n xs ys is = ap (λ k. take k (xs ++ ys)) is ∙ take-append_seam xs ys
