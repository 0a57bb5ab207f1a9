-- Numbers and classes side by side, as they are joined and removed.
use Rattle.std.proofs.Common.{◌≡◌, ◌≤◌, ◌<◌, ℕ, zero, suc, ◌==◌, Bool, true, false, List, [], ◌∷◌, ◌++◌, map, length, take, drop, get_or}
use Rattle.std.proofs.Common.{Option, None, Some, refl, sym, ◌∙◌, ap, arith}
use Rattle.std.specs.Prelude.{slice_get}
use Rattle.std.specs.List.{find, remove}
use Rattle.std.specs.Option.{option_map}
use Rattle.eden_model.specs.Crew.{Invocation, without_call}
use Rattle.coordinator.specs.Queued.{invocations}

pub length-invocations : (ks cs : List ℕ) → length ks ≡ length cs → length (invocations ks cs) ≡ length ks
length-invocations [] cs same = refl
length-invocations (k ∷ ks) [] same = absurd (omega (arith, same))
length-invocations (k ∷ ks) (c ∷ cs) same = ap suc (length-invocations ks cs (omega (arith, same)))

pub invocations-push : (ks cs : List ℕ) (k c : ℕ) → length ks ≡ length cs
    → invocations (ks ++ k ∷ []) (cs ++ c ∷ []) ≡ invocations ks cs ++ record { call = k; class = c } ∷ []
invocations-push [] [] k c same = refl
invocations-push [] (d ∷ cs) k c same = absurd (omega (arith, same))
invocations-push (j ∷ ks) [] k c same = absurd (omega (arith, same))
invocations-push (j ∷ ks) (d ∷ cs) k c same = ap (λ xs. record { call = j; class = d } ∷ xs)
    (invocations-push ks cs k c (omega (arith, same)))

pub invocations-calls : (ks cs : List ℕ) → length ks ≡ length cs → map (λ (i : Invocation). i.call) (invocations ks cs) ≡ ks
invocations-calls [] cs same = refl
invocations-calls (k ∷ ks) [] same = absurd (omega (arith, same))
invocations-calls (k ∷ ks) (c ∷ cs) same = ap (λ xs. k ∷ xs) (invocations-calls ks cs (omega (arith, same)))

pub invocations-get : (ks cs : List ℕ) (i : ℕ) (k c : ℕ) → length ks ≡ length cs → i < length ks → get_or ks i k ≡ k → get_or cs i c ≡ c
    → slice_get (invocations ks cs) i ≡ Some (record { call = k; class = c })
invocations-get [] cs i k c same h a b = absurd (omega (arith, h))
invocations-get (j ∷ ks) [] i k c same h a b = absurd (omega (arith, same))
invocations-get (j ∷ ks) (d ∷ cs) zero k c same h a b = let e : j ≡ k = a in let f : d ≡ c = b in rw (e, f) refl
invocations-get (j ∷ ks) (d ∷ cs) (suc i) k c same h a b = invocations-get ks cs i k c (omega (arith, same)) (omega (arith, h)) a b

pub invocations-remove : (ks cs : List ℕ) (i : ℕ) → length ks ≡ length cs → i < length ks
    → invocations (remove ks i) (remove cs i) ≡ remove (invocations ks cs) i
invocations-remove [] cs i same h = absurd (omega (arith, h))
invocations-remove (k ∷ ks) [] i same h = absurd (omega (arith, same))
invocations-remove (k ∷ ks) (c ∷ cs) zero same h = refl
invocations-remove (k ∷ ks) (c ∷ cs) (suc i) same h = ap (λ xs. record { call = k; class = c } ∷ xs)
    (invocations-remove ks cs i (omega (arith, same)) (omega (arith, h)))

-- 1. Removing from behind

-- what stands behind a place loses the call
abbrev pub without_from : ℕ → ℕ → List Invocation → List Invocation
without_from i k xs = take i xs ++ without_call k (drop i xs)

pub without-none : (k : ℕ) (xs : List Invocation) → without_from (length xs) k xs ≡ xs
without-none k [] = refl
without-none k (x ∷ xs) = ap (λ ys. x ∷ ys) (without-none k xs)

abbrev call_at : List Invocation → ℕ → Option ℕ
call_at xs i = option_map (λ (x : Invocation). x.call) (slice_get xs i)

pub without-kept : (i k j : ℕ) (xs : List Invocation) → call_at (without_from (suc i) k xs) i ≡ Some j → (j == k) ≡ false
    → without_from i k xs ≡ without_from (suc i) k xs
without-kept zero k j [] is other = refl
without-kept zero k j (y ∷ xs) is other = let same : y.call ≡ j = cc in rw (same, other) refl
without-kept (suc i) k j [] is other = refl
without-kept (suc i) k j (y ∷ xs) is other = ap (λ ys. y ∷ ys) (without-kept i k j xs is other)

pub without-gone : (i k j : ℕ) (xs : List Invocation) → call_at (without_from (suc i) k xs) i ≡ Some j → (j == k) ≡ true
    → without_from i k xs ≡ remove (without_from (suc i) k xs) i
without-gone zero k j [] is other = absurd (let bad : None ≡ Some j = is in cc)
without-gone zero k j (y ∷ xs) is other = let same : y.call ≡ j = cc in rw (same, other) refl
without-gone (suc i) k j [] is other = absurd (let bad : None ≡ Some j = is in cc)
without-gone (suc i) k j (y ∷ xs) is other = ap (λ ys. y ∷ ys) (without-gone i k j xs is other)

pub invocations-call : (ks cs : List ℕ) (i k : ℕ) → length ks ≡ length cs → i < length ks → get_or ks i k ≡ k
    → call_at (invocations ks cs) i ≡ Some k
invocations-call [] cs i k same h a = absurd (omega (arith, h))
invocations-call (j ∷ ks) [] i k same h a = absurd (omega (arith, same))
invocations-call (j ∷ ks) (d ∷ cs) zero k same h a = let e : j ≡ k = a in rw e refl
invocations-call (j ∷ ks) (d ∷ cs) (suc i) k same h a = invocations-call ks cs i k (omega (arith, same)) (omega (arith, h)) a

-- a step where the call stands at the place, and one where another does
pub step-gone : (ks cs : List ℕ) (xs : List Invocation) (i n k : ℕ) → length ks ≡ length cs → i < length ks → n ≡ suc i
    → invocations ks cs ≡ without_from n k xs → get_or ks i k ≡ k → invocations (remove ks i) (remove cs i) ≡ without_from i k xs
step-gone ks cs xs i n k same h next after at =
    let before : invocations ks cs ≡ without_from (suc i) k xs = rw next at after in
    invocations-remove ks cs i same h ∙ ap (λ ys. remove ys i) before
    ∙ sym (without-gone i k k xs (sym (ap (λ ys. call_at ys i) before) ∙ invocations-call ks cs i k same h at) (grind arith))

pub step-kept : (ks cs : List ℕ) (xs : List Invocation) (i n k j : ℕ) → length ks ≡ length cs → i < length ks → n ≡ suc i
    → invocations ks cs ≡ without_from n k xs → get_or ks i j ≡ j → (j ≡ k → ⊥) → invocations ks cs ≡ without_from i k xs
step-kept ks cs xs i n k j same h next after at other =
    let before : invocations ks cs ≡ without_from (suc i) k xs = rw next at after in
    before ∙ sym (without-kept i k j xs (sym (ap (λ ys. call_at ys i) before) ∙ invocations-call ks cs i j same h at)
    (grind (arith, other)))

-- 2. The first that passes, from a place on

pub found-here : {X : Type 0} (p : X → Bool) (xs : List X) (i : ℕ) (x : X) → slice_get xs i ≡ Some x → p x ≡ true
    → find p (drop i xs) ≡ Some x
found-here p [] i x is passes = cc
found-here p (y ∷ xs) zero x is passes = let same : y ≡ x = cc in rw (same, passes) refl
found-here p (y ∷ xs) (suc i) x is passes = found-here p xs i x is passes

pub found-later : {X : Type 0} (p : X → Bool) (xs : List X) (i j : ℕ) (x : X) → j ≡ suc i → slice_get xs i ≡ Some x → p x ≡ false
    → find p (drop i xs) ≡ find p (drop j xs)
found-later {X} p xs i j x next is fails = rw next (go xs i is)
  where
    go : (ys : List X) (k : ℕ) → slice_get ys k ≡ Some x → find p (drop k ys) ≡ find p (drop (suc k) ys)
    go [] k at = cc
    go (y ∷ ys) zero at = let same : y ≡ x = cc in rw (same, fails) refl
    go (y ∷ ys) (suc k) at = go ys k at

pub found-none : {X : Type 0} (p : X → Bool) (xs : List X) (i : ℕ) → length xs ≤ i → find p (drop i xs) ≡ None
found-none p [] zero h = refl
found-none p [] (suc i) h = refl
found-none p (y ∷ xs) zero h = absurd (omega (arith, h))
found-none p (y ∷ xs) (suc i) h = found-none p xs i (omega (arith, h))
