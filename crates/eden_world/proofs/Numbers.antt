-- The numbers of the nodes: one is there for each, and a change of one keeps them.
use Rattle.std.proofs.Common.{◌≡◌, ℕ, zero, suc, ◌+◌, ◌≤◌, ◌<◌, ◌==◌, Bool, true, false, cond, List, [], ◌∷◌, map, None, Some}
use Rattle.std.proofs.Common.{refl, sym, ◌∙◌, ap, subst, arith, is_some}
use Rattle.std.specs.Ordering.{nat_cmp, eq_by_cmp}
use Rattle.std.specs.declared.cmp.Ordering.{Ordering}
use Rattle.std.specs.declared.cmp.Ordering.TheVariants.{Less, Equal, Greater}
use Rattle.eden_model.specs.Map.{value_at, put_at}
use Rattle.eden_model.proofs.Numbers.{same-true}
use Rattle.eden_world.specs.Worlds.{AreNumbers, IsNumber, numbers_from}

abbrev keys : {X : Type 0} → List (ℕ × X) → List ℕ
keys es = map (λ e. e.0) es

head-is : (a b : ℕ) (xs ys : List ℕ) → (a ∷ xs) ≡ (b ∷ ys) → a ≡ b
head-is a b xs ys e = cc e

tail-is : (a b : ℕ) (xs ys : List ℕ) → (a ∷ xs) ≡ (b ∷ ys) → xs ≡ ys
tail-is a b xs ys e = cc e

later-than : (n k : ℕ) → k < n → nat_cmp n k ≡ Greater
later-than n k h = grind (arith, h)

pub apart-from : (n k : ℕ) → k < n → eq_by_cmp nat_cmp n k ≡ false
apart-from n k h = rw (later-than n k h) refl

keys-put : {X : Type 0} (c k n : ℕ) (x : X) (es : List (ℕ × X)) → keys es ≡ numbers_from k c → k ≤ n → n < k + c
    → keys (put_at nat_cmp n x es) ≡ numbers_from k c
keys-put zero k n x es is least most = absurd (omega (arith, least, most))
keys-put (suc c) k n x [] is least most = absurd (let bad : [] ≡ k ∷ numbers_from (k + 1) c = is in cc bad)
keys-put {X = X} (suc c) k n x (e ∷ es) is least most = go (nat_cmp n e.0) refl
    (λ past. keys-put c (k + 1) n x es (tail-is e.0 k (keys es) (numbers_from (k + 1) c) is) past (omega (arith, most)))
  where
    first : e.0 ≡ k
    first = head-is e.0 k (keys es) (numbers_from (k + 1) c) is

    go : (o : Ordering) → nat_cmp n e.0 ≡ o → (k + 1 ≤ n → keys (put_at nat_cmp n x es) ≡ numbers_from (k + 1) c)
        → keys (put_at nat_cmp n x (e ∷ es)) ≡ numbers_from k (suc c)
    go Less at later = absurd (grind (arith, at, first, least))
    go Equal at later = rw at is
    go Greater at later = rw at (ap (λ l. e.0 ∷ l) (later (grind (arith, at, first, least)))
        ∙ ap (λ j. j ∷ numbers_from (k + 1) c) first)

only : {X : Type 0} (c k n : ℕ) (es : List (ℕ × X)) → keys es ≡ numbers_from k c → is_some (value_at nat_cmp n es) ≡ true → n < k + c
only zero k n [] is found = absurd (cc found)
only zero k n (e ∷ es) is found = absurd (let bad : e.0 ∷ keys es ≡ [] = is in cc bad)
only (suc c) k n [] is found = absurd (cc found)
only {X = X} (suc c) k n (e ∷ es) is found = go (eq_by_cmp nat_cmp n e.0) refl found
    (λ later. only c (k + 1) n es (tail-is e.0 k (keys es) (numbers_from (k + 1) c) is) later)
  where
    here : n ≡ e.0 → n < k + suc c
    here same = let first : e.0 ≡ k = head-is e.0 k (keys es) (numbers_from (k + 1) c) is in omega (arith, same, first)

    one_more : n < (k + 1) + c → n < k + suc c
    one_more h = omega (arith, h)

    go : (b : Bool) → eq_by_cmp nat_cmp n e.0 ≡ b → is_some (cond b (Some e.1) (value_at nat_cmp n es)) ≡ true
        → (is_some (value_at nat_cmp n es) ≡ true → n < (k + 1) + c) → n < k + suc c
    go true at found later = here (same-true n e.0 at)
    go false at found later = one_more (later found)

-- there is no other
pub within-numbers : {X : Type 0} (n : ℕ) (es : List (ℕ × X)) → AreNumbers (map (λ e. e.0) es) → is_some (value_at nat_cmp n es) ≡ true
    → n ≤ 8
within-numbers n es is found = let below : n < 1 + is.count = only is.count 1 n es is.are found in omega (arith, below, is.few)

-- the nodes stay where one of them changes
pub numbers-put : {X : Type 0} (n : ℕ) (x : X) (es : List (ℕ × X)) → AreNumbers (map (λ e. e.0) es) → 1 ≤ n
    → is_some (value_at nat_cmp n es) ≡ true → AreNumbers (map (λ e. e.0) (put_at nat_cmp n x es))
numbers-put n x es is first found = record {
  count = is.count;
  some = is.some;
  few = is.few;
  are = keys-put is.count 1 n x es is.are first (only is.count 1 n es is.are found);
}

put-itself : {X : Type 0} (c k n : ℕ) (x : X) (es : List (ℕ × X)) → keys es ≡ numbers_from k c → k ≤ n → value_at nat_cmp n es ≡ Some x
    → put_at nat_cmp n x es ≡ es
put-itself zero k n x [] is least found = absurd (let bad : None ≡ Some x = found in cc bad)
put-itself zero k n x (e ∷ es) is least found = absurd (let bad : e.0 ∷ keys es ≡ [] = is in cc bad)
put-itself (suc c) k n x [] is least found = absurd (let bad : None ≡ Some x = found in cc bad)
put-itself {X = X} (suc c) k n x (e ∷ es) is least found = go (nat_cmp n e.0) refl
    (λ past later. put-itself c (k + 1) n x es (tail-is e.0 k (keys es) (numbers_from (k + 1) c) is) past later)
  where
    first : e.0 ≡ k
    first = head-is e.0 k (keys es) (numbers_from (k + 1) c) is

    here : eq_by_cmp nat_cmp n e.0 ≡ true → e.1 ≡ x
    here at = let same : Some e.1 ≡ Some x = subst (λ b. cond b (Some e.1) (value_at nat_cmp n es) ≡ Some x) at found in cc same

    behind : eq_by_cmp nat_cmp n e.0 ≡ false → value_at nat_cmp n es ≡ Some x
    behind at = subst (λ b. cond b (Some e.1) (value_at nat_cmp n es) ≡ Some x) at found

    go : (o : Ordering) → nat_cmp n e.0 ≡ o → (k + 1 ≤ n → value_at nat_cmp n es ≡ Some x → put_at nat_cmp n x es ≡ es)
        → put_at nat_cmp n x (e ∷ es) ≡ e ∷ es
    go Less at later = absurd (grind (arith, at, first, least))
    go Equal at later = rw at (ap (λ y. (e.0, y) ∷ es) (sym (here (rw at refl))))
    go Greater at later = rw at (ap (λ l. e ∷ l) (later (grind (arith, at, first, least)) (behind (rw at refl))))

-- what is there already may be put once more
pub same-put : {X : Type 0} (n : ℕ) (x : X) (es : List (ℕ × X)) → AreNumbers (map (λ e. e.0) es) → IsNumber n
    → value_at nat_cmp n es ≡ Some x → put_at nat_cmp n x es ≡ es
same-put n x es is number found = put-itself is.count 1 n x es is.are number.first found

-- a number is no shell's
pub no-shell : (n : ℕ) → IsNumber n → (n == 0) ≡ false
no-shell n number = grind (arith, number.first)

pub not-zero : (n : ℕ) → IsNumber n → (0 == n) ≡ false
not-zero n number = grind (arith, number.first)
