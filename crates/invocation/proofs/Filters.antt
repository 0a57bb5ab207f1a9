-- Lists of numbers that are told apart, and what passes a test.
use Rattle.std.proofs.Common.{◌≡◌, ◌≢◌, ℕ, ◌==◌, Bool, true, false, cond, not, ◌||◌, List, [], ◌∷◌, ◌++◌, map, refl, sym, ◌∙◌, ap, arith}
use Rattle.std.proofs.Common.{◌⊎◌, inl, inr}
use Rattle.std.specs.List.{filter}
use Rattle.std.specs.Ordering.{nat_cmp, eq_by_cmp}
use Rattle.eden_model.specs.Lines.{has, Distinct}
use Rattle.eden_model.proofs.Numbers.{same-true, same-self, same-comm}

or-true : (b : Bool) → (b || true) ≡ true
or-true true = refl
or-true false = refl

pub has-here : (x : ℕ) (xs : List ℕ) → has x (x ∷ xs) ≡ true
has-here x xs = rw (same-self x) refl

pub has-later : (k x : ℕ) (xs : List ℕ) → has k xs ≡ true → has k (x ∷ xs) ≡ true
has-later k x xs h = rw h (or-true (eq_by_cmp nat_cmp k x))

pub filter-same : (p q : ℕ → Bool) (xs : List ℕ) → ((k : ℕ) → has k xs ≡ true → p k ≡ q k) → filter p xs ≡ filter q xs
filter-same p q [] same = refl
filter-same p q (x ∷ xs) same = rw (same x (has-here x xs), filter-same p q xs (λ k i. same k (has-later k x xs i))) refl

pub map-same : {Y : Type 0} (f g : ℕ → Y) (xs : List ℕ) → ((k : ℕ) → has k xs ≡ true → f k ≡ g k) → map f xs ≡ map g xs
map-same f g [] same = refl
map-same f g (x ∷ xs) same = rw (same x (has-here x xs), map-same f g xs (λ k i. same k (has-later k x xs i))) refl

-- two tests after one another
pub filter-filter : (p f g : ℕ → Bool) (xs : List ℕ) → ((k : ℕ) → p k ≡ true → f k ≡ g k) → filter f (filter p xs) ≡ filter p (filter g xs)
filter-filter p f g [] same = refl
filter-filter p f g (x ∷ xs) same = go (p x) refl (g x) refl (filter-filter p f g xs same)
  where
    go : (a : Bool) → p x ≡ a → (b : Bool) → g x ≡ b → filter f (filter p xs) ≡ filter p (filter g xs)
        → filter f (cond (p x) (x ∷ filter p xs) (filter p xs)) ≡ filter p (cond (g x) (x ∷ filter g xs) (filter g xs))
    go true a true b ih = let c : f x ≡ true = same x a ∙ b in rw (b, a, c) (ap (λ l. x ∷ l) ih)
    go true a false b ih = let c : f x ≡ false = same x a ∙ b in rw (b, a, c) ih
    go false a true b ih = rw (b, a) ih
    go false a false b ih = rw (b, a) ih

pub keep-all : (p : ℕ → Bool) (xs : List ℕ) → ((k : ℕ) → has k xs ≡ true → p k ≡ true) → filter p xs ≡ xs
keep-all p [] all = refl
keep-all p (x ∷ xs) all = rw (all x (has-here x xs)) (ap (λ l. x ∷ l) (keep-all p xs (λ k i. all k (has-later k x xs i))))

pub drop-all : (p : ℕ → Bool) (xs : List ℕ) → ((k : ℕ) → has k xs ≡ true → p k ≡ false) → filter p xs ≡ []
drop-all p [] all = refl
drop-all p (x ∷ xs) all = rw (all x (has-here x xs)) (drop-all p xs (λ k i. all k (has-later k x xs i)))

pub has-filter : (p : ℕ → Bool) (xs : List ℕ) (k : ℕ) → has k (filter p xs) ≡ true → (has k xs ≡ true) × (p k ≡ true)
has-filter p [] k h = absurd (let bad : false ≡ true = h in cc)
has-filter p (x ∷ xs) k h = go (p x) refl h (has-filter p xs k)
  where
    later : (has k (filter p xs) ≡ true → (has k xs ≡ true) × (p k ≡ true)) → has k (filter p xs) ≡ true
        → (has k (x ∷ xs) ≡ true) × (p k ≡ true)
    later ih i = let r = ih i in (has-later k x xs r.0, r.1)

    here : p x ≡ true → (e : Bool) → eq_by_cmp nat_cmp k x ≡ e → (e || has k (filter p xs)) ≡ true
        → (has k (filter p xs) ≡ true → (has k xs ≡ true) × (p k ≡ true)) → (has k (x ∷ xs) ≡ true) × (p k ≡ true)
    here is true e i ih = let same : k ≡ x = same-true k x e in (rw e refl, ap p same ∙ is)
    here is false e i ih = later ih i

    go : (b : Bool) → p x ≡ b → has k (cond b (x ∷ filter p xs) (filter p xs)) ≡ true
        → (has k (filter p xs) ≡ true → (has k xs ≡ true) × (p k ≡ true)) → (has k (x ∷ xs) ≡ true) × (p k ≡ true)
    go true is i ih = here is (eq_by_cmp nat_cmp k x) refl i ih
    go false is i ih = later ih i

none-filter : (p : ℕ → Bool) (xs : List ℕ) (k : ℕ) → has k xs ≡ false → has k (filter p xs) ≡ false
none-filter p xs k none = go (has k (filter p xs)) refl
  where
    go : (b : Bool) → has k (filter p xs) ≡ b → b ≡ false
    go true e = let bad : true ≡ false = sym (has-filter p xs k e).0 ∙ none in cc
    go false e = refl

pub distinct-filter : (p : ℕ → Bool) (xs : List ℕ) → Distinct xs → Distinct (filter p xs)
distinct-filter p [] d = tt
distinct-filter p (x ∷ xs) d = go (p x) (distinct-filter p xs d.1)
  where
    go : (b : Bool) → Distinct (filter p xs) → Distinct (cond b (x ∷ filter p xs) (filter p xs))
    go true ih = (none-filter p xs x d.0, ih)
    go false ih = ih

pub has-push : (xs : List ℕ) (y k : ℕ) → has k (xs ++ y ∷ []) ≡ true → (has k xs ≡ true) ⊎ (k ≡ y)
has-push [] y k h = go (eq_by_cmp nat_cmp k y) refl h
  where
    go : (b : Bool) → eq_by_cmp nat_cmp k y ≡ b → (b || false) ≡ true → (false ≡ true) ⊎ (k ≡ y)
    go true e i = inr (same-true k y e)
    go false e i = inl i
has-push (x ∷ xs) y k h = go (eq_by_cmp nat_cmp k x) refl h (has-push xs y k)
  where
    go : (b : Bool) → eq_by_cmp nat_cmp k x ≡ b → (b || has k (xs ++ y ∷ [])) ≡ true
        → (has k (xs ++ y ∷ []) ≡ true → (has k xs ≡ true) ⊎ (k ≡ y)) → (has k (x ∷ xs) ≡ true) ⊎ (k ≡ y)
    go true e i ih = inl (rw e refl)
    go false e i ih = elim (ih i) [ inl h ↦ inl (has-later k x xs h) | inr same ↦ inr same ]

or-none : (a b : Bool) → (a || b) ≡ false → (a ≡ false) × (b ≡ false)
or-none true b h = absurd (let bad : true ≡ false = h in cc)
or-none false b h = (refl, h)

none-push : (xs : List ℕ) (y k : ℕ) → has k xs ≡ false → eq_by_cmp nat_cmp k y ≡ false → has k (xs ++ y ∷ []) ≡ false
none-push [] y k none other = rw other refl
none-push (x ∷ xs) y k none other = let r = or-none (eq_by_cmp nat_cmp k x) (has k xs) none in rw (r.0, none-push xs y k r.1 other) refl

pub distinct-push : (xs : List ℕ) (y : ℕ) → Distinct xs → has y xs ≡ false → Distinct (xs ++ y ∷ [])
distinct-push [] y d out = (refl, tt)
distinct-push (x ∷ xs) y d out =
    let r = or-none (eq_by_cmp nat_cmp y x) (has y xs) out in
    (none-push xs y x d.0 (same-comm x y ∙ r.0), distinct-push xs y d.1 r.1)

-- a number that is not there is none of those that are
pub apart : (xs : List ℕ) (k j : ℕ) → has k xs ≡ false → has j xs ≡ true → eq_by_cmp nat_cmp j k ≡ false
apart xs k j out there = go (eq_by_cmp nat_cmp j k) refl
  where
    go : (b : Bool) → eq_by_cmp nat_cmp j k ≡ b → b ≡ false
    go true e = let same : j ≡ k = same-true j k e in let bad : true ≡ false = sym there ∙ ap (λ n. has n xs) same ∙ out in cc
    go false e = refl

-- the test that takes one number out
pub taken-out : (k j : ℕ) → not (j == k) ≡ true → eq_by_cmp nat_cmp j k ≡ false
taken-out k j h = go (eq_by_cmp nat_cmp j k) refl
  where
    go : (b : Bool) → eq_by_cmp nat_cmp j k ≡ b → b ≡ false
    go true e = let same : j ≡ k = same-true j k e in absurd (let bad : not (j == k) ≡ false = grind (arith, same) in
        let no : true ≡ false = sym h ∙ bad in cc)
    go false e = refl

pub left-in : (k j : ℕ) → eq_by_cmp nat_cmp j k ≡ false → not (j == k) ≡ true
left-in k j h = go (j == k) refl
  where
    go : (b : Bool) → (j == k) ≡ b → not b ≡ true
    go true e = let same : j ≡ k = grind arith in
        absurd (let no : true ≡ false = sym (same-self k) ∙ ap (λ n. eq_by_cmp nat_cmp n k) (sym same) ∙ h in cc)
    go false e = refl

pub eq-self : (x : ℕ) → (x == x) ≡ true
eq-self x = grind arith

pub eq-apart : (x y : ℕ) → (x == y) ≡ false → x ≢ y
eq-apart x y e same = let bad : true ≡ false = sym (ap (λ n. n == y) same ∙ eq-self y) ∙ e in cc
