-- Laws of numbered items.
use Rattle.std.proofs.Common.{◌≡◌, ◌≤◌, ◌<◌, ℕ, zero, suc, ◌+◌, ◌-◌, Bool, true, false, cond, ◌&&◌, List, [], ◌∷◌, ◌++◌, map, length}
use Rattle.std.proofs.Common.{Option, None, Some, refl, sym, ◌∙◌, ap, arith}
use Rattle.std.specs.Prelude.{slice_get, slice_set}
use Rattle.std.specs.List.{All, filter}
use Rattle.std.proofs.lemmas.List.Elements.{All-nil, All-cons, All-head, All-tail, All-weaker}
use Rattle.eden_model.specs.Map.{with_item}
use Rattle.eden_model.specs.Crew.{change}
use Rattle.invocation.specs.Numbers.{item_in, numbers_where, passes_at, changed_at_all}

-- an item of the second list passes q exactly where that of the first passes p and its number passes t
abbrev pub Picks : {X : Type 0} → (X → Bool) → (X → Bool) → (ℕ → Bool) → ℕ → List X → List X → Type 0
Picks p q t n [] [] = Unit {0}
Picks p q t n (x ∷ xs) (y ∷ ys) = (q y ≡ (p x && t n)) × Picks p q t (n + 1) xs ys
Picks p q t n [] (y ∷ ys) = ⊥
Picks p q t n (x ∷ xs) [] = ⊥

pub numbers-picked : {X : Type 0} (p q : X → Bool) (t : ℕ → Bool) (n : ℕ) (xs ys : List X) → Picks p q t n xs ys
    → filter t (numbers_where p n xs) ≡ numbers_where q n ys
numbers-picked p q t n [] [] h = refl
numbers-picked p q t n (x ∷ xs) (y ∷ ys) h = go (p x) refl (t n) refl (numbers-picked p q t (n + 1) xs ys h.1)
  where
    go : (a : Bool) → p x ≡ a → (b : Bool) → t n ≡ b → filter t (numbers_where p (n + 1) xs) ≡ numbers_where q (n + 1) ys
        → filter t (cond (p x) (n ∷ numbers_where p (n + 1) xs) (numbers_where p (n + 1) xs)) ≡ cond (q y) (n ∷ numbers_where q (n + 1) ys)
        (numbers_where q (n + 1) ys)
    go true a true b ih = let e : q y ≡ true = h.0 ∙ rw (a, b) refl in rw (a, e) (rw b (ap (λ l. n ∷ l) ih))
    go true a false b ih = let e : q y ≡ false = h.0 ∙ rw (a, b) refl in rw (a, e) (rw b ih)
    go false a b c ih = let e : q y ≡ false = h.0 ∙ rw a refl in rw (a, e) ih
numbers-picked p q t n [] (y ∷ ys) h = absurd h
numbers-picked p q t n (x ∷ xs) [] h = absurd h

-- 1. Tests of the items by their numbers

test-next : {X : Type 0} (test : X → Bool) (t : ℕ → Bool) (n : ℕ) (x : X) (xs : List X)
    → ((i : ℕ) → t (n + i) ≡ with_item (slice_get (x ∷ xs) i) test false) → (i : ℕ) → t (n + 1 + i) ≡ with_item (slice_get xs i) test false
test-next test t n x xs h i = let e : n + 1 + i ≡ n + suc i = omega arith in ap t e ∙ h (suc i)

test-here : {X : Type 0} (test : X → Bool) (t : ℕ → Bool) (n : ℕ) (x : X) (xs : List X)
    → ((i : ℕ) → t (n + i) ≡ with_item (slice_get (x ∷ xs) i) test false) → t n ≡ test x
test-here test t n x xs h = let e : n ≡ n + 0 = omega arith in ap t e ∙ h 0

picks-test : {X : Type 0} (p test : X → Bool) (t : ℕ → Bool) (n : ℕ) (xs : List X)
    → ((i : ℕ) → t (n + i) ≡ with_item (slice_get xs i) test false) → Picks p (λ x. p x && test x) t n xs xs
picks-test p test t n [] h = tt
picks-test p test t n (x ∷ xs) h = (
  ap (λ b. p x && b) (sym (test-here test t n x xs h)),
  picks-test p test t (n + 1) xs (test-next test t n x xs h),
)

-- an item of the second list passes only where that of the first does
abbrev pub Falls : {X : Type 0} → (X → Bool) → List X → List X → Type 0
Falls p [] [] = Unit {0}
Falls p (x ∷ xs) (y ∷ ys) = (p y ≡ (p x && p y)) × Falls p xs ys
Falls p [] (y ∷ ys) = ⊥
Falls p (x ∷ xs) [] = ⊥

picks-falls : {X : Type 0} (p : X → Bool) (t : ℕ → Bool) (n : ℕ) (xs ys : List X) → Falls p xs ys
    → ((i : ℕ) → t (n + i) ≡ with_item (slice_get ys i) p false) → Picks p p t n xs ys
picks-falls p t n [] [] falls h = tt
picks-falls p t n (x ∷ xs) (y ∷ ys) falls h =
    (falls.0 ∙ ap (λ b. p x && b) (sym (test-here p t n y ys h)), picks-falls p t (n + 1) xs ys falls.1 (test-next p t n y ys h))
picks-falls p t n [] (y ∷ ys) falls h = absurd falls
picks-falls p t n (x ∷ xs) [] falls h = absurd falls

-- numbers from 1
from-one : {X : Type 0} (test : X → Bool) (xs : List X) (i : ℕ) → passes_at test xs (1 + i) ≡ with_item (slice_get xs i) test false
from-one test xs i = let e : 1 + i ≡ suc i = omega arith in ap (passes_at test xs) e

-- those that pass two tests
pub both-pass : {X : Type 0} (p test : X → Bool) (xs : List X)
    → filter (passes_at test xs) (numbers_where p 1 xs) ≡ numbers_where (λ x. p x && test x) 1 xs
both-pass p test xs = numbers-picked p (λ x. p x && test x) (passes_at test xs) 1 xs xs
    (picks-test p test (passes_at test xs) 1 xs (from-one test xs))

-- those that pass still, where none comes to pass
pub falls-pass : {X : Type 0} (p : X → Bool) (xs ys : List X) → Falls p xs ys
    → filter (passes_at p ys) (numbers_where p 1 xs) ≡ numbers_where p 1 ys
falls-pass p xs ys falls = numbers-picked p p (passes_at p ys) 1 xs ys (picks-falls p (passes_at p ys) 1 xs ys falls (from-one p ys))

-- 2. Items of which none comes to pass

pub falls-map : {X : Type 0} (p : X → Bool) (f : X → X) → ((x : X) → p (f x) ≡ (p x && p (f x))) → (xs : List X) → Falls p xs (map f xs)
falls-map p f each [] = tt
falls-map p f each (x ∷ xs) = (each x, falls-map p f each xs)

and-self : (b : Bool) → b ≡ (b && b)
and-self true = refl
and-self false = refl

falls-self : {X : Type 0} (p : X → Bool) (xs : List X) → Falls p xs xs
falls-self p [] = tt
falls-self p (x ∷ xs) = (and-self (p x), falls-self p xs)

pub falls-change : {X : Type 0} (p : X → Bool) (f : X → X) → ((x : X) → p (f x) ≡ (p x && p (f x))) → (i : ℕ) (xs : List X)
    → Falls p xs (change i f xs)
falls-change p f each i [] = tt
falls-change p f each zero (x ∷ xs) = (each x, falls-self p xs)
falls-change p f each (suc i) (x ∷ xs) = (and-self (p x), falls-change p f each i xs)

and-three : (a b c : Bool) → b ≡ (a && b) → c ≡ (b && c) → c ≡ (a && c)
and-three true b c h k = refl
and-three false b c h k = k ∙ ap (λ x. x && c) h

pub falls-trans : {X : Type 0} (p : X → Bool) (xs ys zs : List X) → Falls p xs ys → Falls p ys zs → Falls p xs zs
falls-trans p [] [] [] h k = tt
falls-trans p (x ∷ xs) (y ∷ ys) (z ∷ zs) h k = (and-three (p x) (p y) (p z) h.0 k.0, falls-trans p xs ys zs h.1 k.1)
falls-trans p [] (y ∷ ys) zs h k = absurd h
falls-trans p [] [] (z ∷ zs) h k = absurd k
falls-trans p (x ∷ xs) [] zs h k = absurd h
falls-trans p (x ∷ xs) (y ∷ ys) [] h k = absurd k

and-right : (a b : Bool) → b ≡ (a && b) → b ≡ true → a ≡ true
and-right true b h k = refl
and-right false b h k = sym h ∙ k

-- what passes passed before
pub passed-before : {X : Type 0} (p : X → Bool) (xs ys : List X) → Falls p xs ys → (k : ℕ) → passes_at p ys k ≡ true
    → passes_at p xs k ≡ true
passed-before p xs ys falls zero h = absurd (let bad : false ≡ true = h in cc)
passed-before {X} p xs ys falls (suc k) h = go xs ys falls k h
  where
    go : (us vs : List X) → Falls p us vs → (i : ℕ) → with_item (slice_get vs i) p false ≡ true → with_item (slice_get us i) p false ≡ true
    go [] [] f i e = e
    go (u ∷ us) (v ∷ vs) f zero e = and-right (p u) (p v) f.0 e
    go (u ∷ us) (v ∷ vs) f (suc i) e = go us vs f.1 i e
    go [] (v ∷ vs) f i e = absurd f
    go (u ∷ us) [] f i e = absurd f

-- a test that implies another
pub passes-by : {X : Type 0} (q p : X → Bool) → ((x : X) → q x ≡ true → p x ≡ true) → (xs : List X) (k : ℕ) → passes_at q xs k ≡ true
    → passes_at p xs k ≡ true
passes-by {X} q p implies xs k = go (item_in k xs)
  where
    go : (o : Option X) → with_item o q false ≡ true → with_item o p false ≡ true
    go None e = e
    go (Some x) e = implies x e

pub numbers-same : {X : Type 0} (p q : X → Bool) → ((x : X) → p x ≡ q x) → (n : ℕ) (xs : List X)
    → numbers_where p n xs ≡ numbers_where q n xs
numbers-same p q same n [] = refl
numbers-same p q same n (x ∷ xs) = rw (same x, numbers-same p q same (n + 1) xs) refl

-- a wider test before another
pub filter-narrow : (p q : ℕ → Bool) (ks : List ℕ) → ((k : ℕ) → q k ≡ true → p k ≡ true) → filter q (filter p ks) ≡ filter q ks
filter-narrow p q [] wider = refl
filter-narrow p q (k ∷ ks) wider = go (p k) refl (q k) refl (filter-narrow p q ks wider)
  where
    go : (a : Bool) → p k ≡ a → (b : Bool) → q k ≡ b → filter q (filter p ks) ≡ filter q ks
        → filter q (cond (p k) (k ∷ filter p ks) (filter p ks)) ≡ cond (q k) (k ∷ filter q ks) (filter q ks)
    go true a true b ih = rw (a, b) (ap (λ l. k ∷ l) ih)
    go true a false b ih = rw (a, b) ih
    go false a true b ih = absurd (let bad : true ≡ false = sym (wider k b) ∙ a in cc)
    go false a false b ih = rw (a, b) ih

-- 3. The numbers are those of items

abbrev pub IsWithin : ℕ → ℕ → ℕ → Type 0
IsWithin n more k = (n ≤ k) × (k < n + more)

pub numbers-within : {X : Type 0} (p : X → Bool) (n : ℕ) (xs : List X) → All (IsWithin n (length xs)) (numbers_where p n xs)
numbers-within p n [] = All-nil (IsWithin n 0)
numbers-within {X} p n (x ∷ xs) =
    go (p x) (All-weaker (IsWithin (n + 1) (length xs)) (IsWithin n (suc (length xs))) (λ k h. (omega (arith, h.0), omega (arith, h.1)))
    (numbers_where p (n + 1) xs) (numbers-within p (n + 1) xs))
  where
    go : (b : Bool) → All (IsWithin n (suc (length xs))) (numbers_where p (n + 1) xs)
        → All (IsWithin n (suc (length xs))) (cond b (n ∷ numbers_where p (n + 1) xs) (numbers_where p (n + 1) xs))
    go true later = All-cons (IsWithin n (suc (length xs))) n (numbers_where p (n + 1) xs) (omega arith, omega arith) later
    go false later = later

-- numbers from 1
pub numbers-given : {X : Type 0} (p : X → Bool) (xs : List X) → All (λ k. (1 ≤ k) × (k ≤ length xs)) (numbers_where p 1 xs)
numbers-given p xs = All-weaker (IsWithin 1 (length xs)) (λ k. (1 ≤ k) × (k ≤ length xs)) (λ k h. (h.0, omega (arith, h.1)))
    (numbers_where p 1 xs) (numbers-within p 1 xs)

-- one more item
pub numbers-push : {X : Type 0} (p : X → Bool) (n : ℕ) (xs : List X) (x : X)
    → numbers_where p n (xs ++ x ∷ []) ≡ numbers_where p n xs ++ cond (p x) ((n + length xs) ∷ []) []
numbers-push p n [] x = let e : n + 0 ≡ n = omega arith in rw e refl
numbers-push {X} p n (y ∷ ys) x = let e : n + 1 + length ys ≡ n + suc (length ys) = omega arith in
    go (p y) (numbers-push p (n + 1) ys x ∙ ap (λ m. numbers_where p (n + 1) ys ++ cond (p x) (m ∷ []) []) e)
  where
    go : (b : Bool) → numbers_where p (n + 1) (ys ++ x ∷ []) ≡ numbers_where p (n + 1) ys ++ cond (p x) ((n + suc (length ys)) ∷ []) []
        → cond b (n ∷ numbers_where p (n + 1) (ys ++ x ∷ [])) (numbers_where p (n + 1) (ys ++ x ∷ [])) ≡ cond b
        (n ∷ numbers_where p (n + 1) ys) (numbers_where p (n + 1) ys) ++ cond (p x) ((n + suc (length ys)) ∷ []) []
    go true ih = ap (λ l. n ∷ l) ih
    go false ih = ih

-- 4. All that pass are changed

pub changed-push : {X : Type 0} (f : X → X) (n : ℕ) (ks : List ℕ) (k : ℕ) (xs : List X)
    → changed_at_all f n (ks ++ k ∷ []) xs ≡ change (k - n) f (changed_at_all f n ks xs)
changed-push f n [] k xs = refl
changed-push f n (j ∷ ks) k xs = changed-push f n ks k (change (j - n) f xs)

changed-past : {X : Type 0} (p : X → Bool) (f : X → X) (n m : ℕ) (ys : List X) (x : X) (xs : List X) → n < m
    → changed_at_all f n (numbers_where p m ys) (x ∷ xs) ≡ x ∷ changed_at_all f (n + 1) (numbers_where p m ys) xs
changed-past p f n m [] x xs h = refl
changed-past {X} p f n m (y ∷ ys) x xs h = go (p y) (λ zs. changed-past p f n (m + 1) ys x zs (omega (arith, h)))
  where
    go : (b : Bool) → ((zs : List X)
        → changed_at_all f n (numbers_where p (m + 1) ys) (x ∷ zs) ≡ x ∷ changed_at_all f (n + 1) (numbers_where p (m + 1) ys) zs)
        → changed_at_all f n (cond b (m ∷ numbers_where p (m + 1) ys) (numbers_where p (m + 1) ys)) (x ∷ xs) ≡ x ∷ changed_at_all f (n + 1)
        (cond b (m ∷ numbers_where p (m + 1) ys) (numbers_where p (m + 1) ys)) xs
    go true ih =
        let e : m - n ≡ suc (m - (n + 1)) = omega (arith, h) in
        ap (λ i. changed_at_all f n (numbers_where p (m + 1) ys) (change i f (x ∷ xs))) e ∙ ih (change (m - (n + 1)) f xs)
    go false ih = ih xs

pub all-changed : {X : Type 0} (p : X → Bool) (f : X → X) (n : ℕ) (xs : List X)
    → changed_at_all f n (numbers_where p n xs) xs ≡ map (λ x. cond (p x) (f x) x) xs
all-changed p f n [] = refl
all-changed {X} p f n (x ∷ xs) = go (p x) (all-changed p f (n + 1) xs)
  where
    go : (b : Bool) → changed_at_all f (n + 1) (numbers_where p (n + 1) xs) xs ≡ map (λ x. cond (p x) (f x) x) xs
        → changed_at_all f n (cond b (n ∷ numbers_where p (n + 1) xs) (numbers_where p (n + 1) xs)) (x ∷ xs) ≡ cond b (f x) x ∷ map
        (λ x. cond (p x) (f x) x) xs
    go true ih =
        let e : n - n ≡ 0 = omega arith in
        ap (λ i. changed_at_all f n (numbers_where p (n + 1) xs) (change i f (x ∷ xs))) e
        ∙ changed-past p f n (n + 1) xs (f x) xs (omega arith) ∙ ap (λ l. f x ∷ l) ih
    go false ih = changed-past p f n (n + 1) xs x xs (omega arith) ∙ ap (λ l. x ∷ l) ih

-- a change that leaves the item there as it is
change-fixed : {X : Type 0} (f : X → X) (xs : List X) (i : ℕ) → ((x : X) → slice_get xs i ≡ Some x → f x ≡ x) → change i f xs ≡ xs
change-fixed f [] i fixed = refl
change-fixed f (x ∷ xs) zero fixed = ap (λ y. y ∷ xs) (fixed x refl)
change-fixed f (x ∷ xs) (suc i) fixed = ap (λ l. x ∷ l) (change-fixed f xs i fixed)

fixed-changed : {X : Type 0} (f : X → X) (xs : List X) (i j : ℕ) → ((x : X) → slice_get xs j ≡ Some x → f x ≡ x) → (x : X)
    → slice_get (change i f xs) j ≡ Some x → f x ≡ x
fixed-changed f [] i j fixed x is = fixed x is
fixed-changed f (y ∷ ys) zero zero fixed x is = let e : f y ≡ x = cc in ap f (sym e ∙ fixed y refl) ∙ e
fixed-changed f (y ∷ ys) zero (suc j) fixed x is = fixed x is
fixed-changed f (y ∷ ys) (suc i) zero fixed x is = fixed x is
fixed-changed f (y ∷ ys) (suc i) (suc j) fixed x is = fixed-changed f ys i j fixed x is

abbrev pub Fixed : {X : Type 0} → (X → X) → (ℕ → Bool) → List X → Type 0
Fixed {X} f t xs = (k : ℕ) → 1 ≤ k → t k ≡ false → (x : X) → slice_get xs (k - 1) ≡ Some x → f x ≡ x

-- numbers of items that the change leaves as they are may be left out
pub changed-skip : {X : Type 0} (f : X → X) (t : ℕ → Bool) (ks : List ℕ) (xs : List X) → All (λ k. 1 ≤ k) ks → Fixed f t xs
    → changed_at_all f 1 ks xs ≡ changed_at_all f 1 (filter t ks) xs
changed-skip f t [] xs all fixed = refl
changed-skip {X} f t (k ∷ ks) xs all fixed = go (t k) refl (λ ys. changed-skip f t ks ys (All-tail (λ j. 1 ≤ j) k ks all))
  where
    from : 1 ≤ k
    from = All-head (λ j. 1 ≤ j) k ks all

    go : (b : Bool) → t k ≡ b → ((ys : List X) → Fixed f t ys → changed_at_all f 1 ks ys ≡ changed_at_all f 1 (filter t ks) ys)
        → changed_at_all f 1 ks (change (k - 1) f xs) ≡ changed_at_all f 1 (cond b (k ∷ filter t ks) (filter t ks)) xs
    go true is ih = ih (change (k - 1) f xs) (λ j one no x at. fixed-changed f xs (k - 1) (j - 1) (fixed j one no) x at)
    go false is ih = ap (changed_at_all f 1 ks) (change-fixed f xs (k - 1) (fixed k from is)) ∙ ih xs fixed

-- a change where there is an item
pub change-set : {X : Type 0} (f : X → X) (xs : List X) (i : ℕ) (x : X) → slice_get xs i ≡ Some x → change i f xs ≡ slice_set xs i (f x)
change-set f [] i x h = cc
change-set f (y ∷ xs) zero x h = let same : y ≡ x = cc in rw same refl
change-set f (y ∷ xs) (suc i) x h = ap (λ l. y ∷ l) (change-set f xs i x h)

pub length-change : {X : Type 0} (f : X → X) (xs : List X) (i : ℕ) → length (change i f xs) ≡ length xs
length-change f [] i = refl
length-change f (x ∷ xs) zero = refl
length-change f (x ∷ xs) (suc i) = ap suc (length-change f xs i)

pub length-changed : {X : Type 0} (f : X → X) (n : ℕ) (ks : List ℕ) (xs : List X) → length (changed_at_all f n ks xs) ≡ length xs
length-changed f n [] xs = refl
length-changed f n (k ∷ ks) xs = length-changed f n ks (change (k - n) f xs) ∙ length-change f xs (k - n)
