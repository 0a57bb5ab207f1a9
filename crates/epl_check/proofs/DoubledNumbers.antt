-- Numbers that stand twice, told from the last one on.
use Rattle.std.proofs.Common.{◌≡◌, ℕ, ◌+◌, ◌<◌, max, min, Bool, true, false, cond, refl, ap, sym, ◌∙◌, List, [], ◌∷◌, ◌++◌}
use Rattle.std.proofs.Common.{map, length, drop, get_or, Option, Some, None, arith}
use Rattle.std.specs.Prelude.{nat_lt, ◌==◌, ◌||◌, ◌&&◌}
use Rattle.std.specs.Ordering.{nat_cmp, is_eq}
use Rattle.std.specs.List.{flat_map}
use Rattle.std.specs.BTreeMap.{BTreeMap, get, Updates}
use Rattle.epl_syntax.specs.declared.tree.Number.{Number}
use Rattle.epl_syntax.specs.declared.rule.Broken.{Broken}
use Rattle.epl_syntax.specs.declared.rule.Rule.TheVariants.{Doubled}
use Rattle.epl_syntax.specs.Rules.First.{rank, before, sooner, least, broken_at, broken_if}
use Rattle.epl_syntax.specs.Rules.Scopes.{same_number, doubled_numbers}
use Rattle.epl_check.specs.Numbered.{least_with, least_place, HasPlaces, told_among}
use Rattle.epl_check.proofs.Least.{least_append, drop_item}

-- a name that stands twice, at a place
abbrev twice_at : ℕ → Broken
twice_at place = broken_at Doubled place

-- the order, over places and ranks
abbrev lower : ℕ → ℕ → ℕ → ℕ → Bool
lower p r q s = nat_lt p q || (p == q && nat_lt r s)

told_lower : (x y a r s : ℕ) → lower x s a r ≡ true → nat_lt y x ≡ true → lower y s a r ≡ true
told_lower x y a r s h k = grind arith

kept_lower : (x y a r s : ℕ) → lower x s a r ≡ false → nat_lt y x ≡ false → lower y s a r ≡ false
kept_lower x y a r s h k = grind arith

lower_alike : (x y s : ℕ) → lower y s x s ≡ nat_lt y x
lower_alike x y s = grind arith

min_second : (x y : ℕ) → nat_lt y x ≡ true → y ≡ min x y
min_second x y h = grind arith

min_first : (x y : ℕ) → nat_lt y x ≡ false → x ≡ min x y
min_first x y h = grind arith

-- ---- of two places at which names stand twice the lesser one is told

second_stays : (a : Broken) (x y : ℕ) (t : Bool) → before (twice_at x) a ≡ t → nat_lt y x ≡ true
    → sooner (cond t (Some (twice_at x)) (Some a)) (twice_at y) ≡ sooner (Some a) (twice_at y)
second_stays a x y true h k =
    ap (λ s. cond s (Some (twice_at y)) (Some (twice_at x))) (lower_alike x y (rank Doubled) ∙ k)
    ∙ sym (ap (λ s. cond s (Some (twice_at y)) (Some a)) (told_lower x y a.place (rank a.rule) (rank Doubled) h k))
second_stays a x y false h k = refl

first_stays : (a : Broken) (x y : ℕ) (t : Bool) → before (twice_at x) a ≡ t → nat_lt y x ≡ false
    → sooner (cond t (Some (twice_at x)) (Some a)) (twice_at y) ≡ cond t (Some (twice_at x)) (Some a)
first_stays a x y true h k = ap (λ s. cond s (Some (twice_at y)) (Some (twice_at x))) (lower_alike x y (rank Doubled) ∙ k)
first_stays a x y false h k =
    ap (λ s. cond s (Some (twice_at y)) (Some a)) (kept_lower x y a.place (rank a.rule) (rank Doubled) h k)

two_by : (o : Option Broken) (x y : ℕ) (t : Bool) → nat_lt y x ≡ t
    → sooner (sooner o (twice_at x)) (twice_at y) ≡ sooner o (twice_at (min x y))
two_by None x y true k =
    ap (λ s. cond s (Some (twice_at y)) (Some (twice_at x))) (lower_alike x y (rank Doubled) ∙ k)
    ∙ ap (λ m. Some (twice_at m)) (min_second x y k)
two_by None x y false k =
    ap (λ s. cond s (Some (twice_at y)) (Some (twice_at x))) (lower_alike x y (rank Doubled) ∙ k)
    ∙ ap (λ m. Some (twice_at m)) (min_first x y k)
two_by (Some a) x y true k =
    second_stays a x y (before (twice_at x) a) refl k ∙ ap (λ m. sooner (Some a) (twice_at m)) (min_second x y k)
two_by (Some a) x y false k =
    first_stays a x y (before (twice_at x) a) refl k ∙ ap (λ m. sooner (Some a) (twice_at m)) (min_first x y k)

two_told : (o : Option Broken) (x y : ℕ) → sooner (sooner o (twice_at x)) (twice_at y) ≡ sooner o (twice_at (min x y))
two_told o x y = two_by o x y (nat_lt y x) refl

swapped : (o : Option Broken) (x y : ℕ)
    → sooner (sooner o (twice_at x)) (twice_at y) ≡ sooner (sooner o (twice_at y)) (twice_at x)
swapped o x y =
    let e : min x y ≡ min y x = omega arith in
    two_told o x y ∙ ap (λ m. sooner o (twice_at m)) e ∙ sym (two_told o y x)

-- ---- a number and those of a list

later_of_both : (a p q : ℕ) → min (max a p) (max a q) ≡ max a (min p q)
later_of_both a p q = omega arith

with_place : (a : Number) (p : ℕ) (q : Option ℕ) (o : Option Broken)
    → least (sooner o (twice_at (max a.place p))) (told_among a q) ≡ sooner o (twice_at (max a.place (least_with p q)))
with_place a p None o = refl
with_place a p (Some q) o =
    two_told o (max a.place p) (max a.place q) ∙ ap (λ m. sooner o (twice_at m)) (later_of_both a.place p q)

among_by : (a b : Number) (ns : List Number) (o : Option Broken) (t : Bool)
    → ((p : Option Broken) → least p (flat_map (same_number a) ns) ≡ least p (told_among a (least_place ns a.n)))
    → least o (broken_if t Doubled (max a.place b.place) ++ flat_map (same_number a) ns)
    ≡ least o (told_among a (cond t (Some (least_with b.place (least_place ns a.n))) (least_place ns a.n)))
among_by a b ns o false again = again o
among_by a b ns o true again =
    again (sooner o (twice_at (max a.place b.place))) ∙ with_place a b.place (least_place ns a.n) o

among_told : (a : Number) (ns : List Number) (o : Option Broken)
    → least o (flat_map (same_number a) ns) ≡ least o (told_among a (least_place ns a.n))
among_told a [] o = refl
among_told a (b ∷ ns) o = among_by a b ns o (a.n == b.n) (λ p. among_told a ns p)

-- ---- a number before a list

first_number : (a : Number) (ns : List Number) (o : Option Broken)
    → least o (doubled_numbers (a ∷ ns)) ≡ least (least o (told_among a (least_place ns a.n))) (doubled_numbers ns)
first_number a ns o =
    least_append o (flat_map (same_number a) ns) (doubled_numbers ns)
    ∙ ap (λ p. least p (doubled_numbers ns)) (among_told a ns o)

told_swap : (a : Number) (p : Option ℕ) (o : Option Broken) (y : ℕ)
    → least (sooner o (twice_at y)) (told_among a p) ≡ sooner (least o (told_among a p)) (twice_at y)
told_swap a None o y = refl
told_swap a (Some p) o y = swapped o y (max a.place p)

numbers_swap : (ns : List Number) (o : Option Broken) (y : ℕ)
    → least (sooner o (twice_at y)) (doubled_numbers ns) ≡ sooner (least o (doubled_numbers ns)) (twice_at y)
numbers_swap [] o y = refl
numbers_swap (a ∷ ns) o y =
    first_number a ns (sooner o (twice_at y))
    ∙ ap (λ p. least p (doubled_numbers ns)) (told_swap a (least_place ns a.n) o y)
    ∙ numbers_swap ns (least o (told_among a (least_place ns a.n))) y
    ∙ ap (λ p. sooner p (twice_at y)) (sym (first_number a ns o))

told_behind : (a : Number) (ns : List Number) (o : Option Broken) (p : Option ℕ)
    → least (least o (doubled_numbers ns)) (told_among a p) ≡ least (least o (told_among a p)) (doubled_numbers ns)
told_behind a ns o None = refl
told_behind a ns o (Some p) = sym (numbers_swap ns o (max a.place p))

-- ---- one more number has been told, and has its place
abbrev Gone : {A : Type 0} → (A → Number) → List A → ℕ → List Number
Gone g xs i = map g (drop i xs)

pub numbers_turn : {A : Type 0} (g : A → Number) (xs : List A) (i j : ℕ) (x : A) (m : BTreeMap ℕ ℕ) (o now then : Option Broken)
    → i ≡ j + 1 → j < length xs → x ≡ get_or xs j x
    → HasPlaces m (Gone g xs i) → now ≡ least o (doubled_numbers (Gone g xs i))
    → then ≡ least now (told_among (g x) (get nat_cmp m (g x).n))
    → then ≡ least o (doubled_numbers (Gone g xs j))
numbers_turn g xs i j x m o now then e h a places told t =
    let ns = Gone g xs (j + 1) in
    let n = g x in
    let here : get nat_cmp m n.n ≡ least_place ns n.n = places n.n ∙ ap (λ k. least_place (Gone g xs k) n.n) e in
    t
    ∙ ap (λ p. least now (told_among n p)) here
    ∙ ap (λ p. least p (told_among n (least_place ns n.n))) (told ∙ ap (λ k. least o (doubled_numbers (Gone g xs k))) e)
    ∙ told_behind n ns o (least_place ns n.n)
    ∙ sym (first_number n ns o)
    ∙ sym (ap (λ l. least o (doubled_numbers (map g l))) (drop_item xs j x h a))

alike : (q k : ℕ) → (q == k) ≡ true → k ≡ q
alike q k h = grind arith

same_key : (k q : ℕ) → is_eq (nat_cmp k q) ≡ (q == k)
same_key k q = grind arith

pub places_turn : {A : Type 0} (g : A → Number) (xs : List A) (i j : ℕ) (x : A) (m then : BTreeMap ℕ ℕ)
    → i ≡ j + 1 → j < length xs → x ≡ get_or xs j x
    → HasPlaces m (Gone g xs i)
    → Updates nat_cmp m then (g x).n (Some (least_with (g x).place (get nat_cmp m (g x).n)))
    → HasPlaces then (Gone g xs j)
places_turn g xs i j x m then e h a places u q =
    let ns = Gone g xs (j + 1) in
    let n = g x in
    let there : (k : ℕ) → get nat_cmp m k ≡ least_place ns k =
    λ k. places k ∙ ap (λ d. least_place (Gone g xs d) k) e in
    u.0 q
    ∙ ap (λ s. cond s (Some (least_with n.place (get nat_cmp m n.n))) (get nat_cmp m q)) (same_key n.n q)
    ∙ ap (λ p. cond (q == n.n) (Some (least_with n.place p)) (get nat_cmp m q)) (there n.n)
    ∙ ap (λ p. cond (q == n.n) (Some (least_with n.place (least_place ns n.n))) p) (there q)
    ∙ same_there q n ns (q == n.n) refl
    ∙ sym (ap (λ l. least_place (map g l) q) (drop_item xs j x h a))
  where
    same_there : (q : ℕ) (n : Number) (ns : List Number) (t : Bool) → (q == n.n) ≡ t
        → cond t (Some (least_with n.place (least_place ns n.n))) (least_place ns q)
        ≡ cond t (Some (least_with n.place (least_place ns q))) (least_place ns q)
    same_there q n ns false k = refl
    same_there q n ns true k =
        let e : n.n ≡ q = alike q n.n k in
        ap (λ m. Some (least_with n.place (least_place ns m))) e
