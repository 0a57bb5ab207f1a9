-- The first of broken rules.
use Rattle.std.proofs.Common.{◌≡◌, ℕ, zero, suc, ◌<◌, ◌≤◌, Bool, true, false, cond, List, [], ◌∷◌, ◌++◌, Option, Some}
use Rattle.std.proofs.Common.{None, refl, sym, ap, ◌∙◌, subst, arith}
use Rattle.std.proofs.Common.{map, ◌+◌, length, drop, get_or}
use Rattle.std.proofs.Common.{◌⊎◌, inl, inr}
use Rattle.std.specs.Prelude.{nat_lt, ◌==◌, ◌||◌, ◌&&◌}
use Rattle.std.specs.List.{flat_map}
use Rattle.epl_syntax.specs.declared.rule.Broken.{Broken}
use Rattle.epl_syntax.specs.declared.rule.Rule.{Rule}
use Rattle.epl_syntax.specs.Rules.First.{rank, before, sooner, least, broken_at, broken_if, IsOneOf, NoneBefore, IsFirst}
use Rattle.epl_check.specs.View.{is_past}

pub least_append : (o : Option Broken) (bs cs : List Broken) → least o (bs ++ cs) ≡ least (least o bs) cs
least_append o [] cs = refl
least_append o (b ∷ bs) cs = least_append (sooner o b) bs cs

-- ## A list's turn

pub drop_item : {A : Type 0} (xs : List A) (i : ℕ) (x : A) → i < length xs → x ≡ get_or xs i x → drop i xs ≡ x ∷ drop (i + 1) xs
drop_item [] i x h k = absurd (omega arith)
drop_item (y ∷ xs) zero x h k = ap (λ z. z ∷ xs) (sym k)
drop_item (y ∷ xs) (suc i) x h k =
    let n : suc i + 1 ≡ suc (i + 1) = omega arith in
    drop_item xs i x (omega arith) k ∙ ap (λ j. x ∷ drop j (y ∷ xs)) (sym n)

-- one more of a list has been told
pub turn : {A : Type 0} (f : A → List Broken) (xs : List A) (i : ℕ) (x : A) (o o' whole : Option Broken) → i < length xs → x ≡ get_or xs i x
    → o' ≡ least o (f x) → least o (flat_map f (drop i xs)) ≡ whole → least o' (flat_map f (drop (i + 1) xs)) ≡ whole
turn f xs i x o o' whole h k s w =
    ap (λ p. least p (flat_map f (drop (i + 1) xs))) s
    ∙ sym (least_append o (f x) (flat_map f (drop (i + 1) xs)))
    ∙ sym (ap (λ es. least o (flat_map f es)) (drop_item xs i x h k))
    ∙ w

pub map_turn : {A B : Type 0} (f : B → List Broken) (g : A → B) (xs : List A) (i : ℕ) (x : A) (o o' whole : Option Broken) → i < length xs
    → x ≡ get_or xs i x → o' ≡ least o (f (g x)) → least o (flat_map f (map g (drop i xs))) ≡ whole
    → least o' (flat_map f (map g (drop (i + 1) xs))) ≡ whole
map_turn f g xs i x o o' whole h k s w =
    ap (λ p. least p (flat_map f (map g (drop (i + 1) xs)))) s
    ∙ sym (least_append o (f (g x)) (flat_map f (map g (drop (i + 1) xs))))
    ∙ sym (ap (λ es. least o (flat_map f (map g es))) (drop_item xs i x h k))
    ∙ w

-- ## What comes behind the first one changes nothing

not_lower_behind : (p r q s n : ℕ) → nat_lt q n ≡ true → n ≤ p → (nat_lt p q || (p == q && nat_lt r s)) ≡ false
not_lower_behind p r q s n h k = grind arith

stays : (a c : Broken) → before c a ≡ false → Some a ≡ least (Some a) (c ∷ [])
stays a c h = by_test (before c a) h
  where
    by_test : (t : Bool) → t ≡ false → Some a ≡ cond t (Some c) (Some a)
    by_test true e = absurd cc
    by_test false e = refl

pub past_one : (o : Option Broken) (place q : ℕ) (rule : Rule) (t : Bool) → is_past o place ≡ true → place ≤ q
    → o ≡ least o (broken_if t rule q)
past_one None place q rule t h k = absurd cc
past_one (Some a) place q rule false h k = refl
past_one (Some a) place q rule true h k =
    stays a (broken_at rule q) (not_lower_behind q (rank rule) a.place (rank a.rule) place h k)

pub past_all : {A : Type 0} (f : A → List Broken) (o : Option Broken) → ((x : A) → o ≡ least o (f x)) → (xs : List A)
    → o ≡ least o (flat_map f xs)
past_all f o h [] = refl
past_all f o h (x ∷ xs) = past_all f o h xs ∙ ap (λ p. least p (flat_map f xs)) (h x) ∙ sym (least_append o (f x) (flat_map f xs))

-- what is told earlier stays past a place
sooner_past : (a b : Broken) (place : ℕ) (t : Bool) → before b a ≡ t → nat_lt a.place place ≡ true
    → is_past (cond t (Some b) (Some a)) place ≡ true
sooner_past a b place false h k = k
sooner_past a b place true h k = lower_past_place b.place (rank b.rule) a.place (rank a.rule) place h k
  where
    lower_past_place : (p r q s n : ℕ) → (nat_lt p q || (p == q && nat_lt r s)) ≡ true → nat_lt q n ≡ true → nat_lt p n ≡ true
    lower_past_place p r q s n h k = grind arith

pub still_past : (o : Option Broken) (bs : List Broken) (place : ℕ) → is_past o place ≡ true → is_past (least o bs) place ≡ true
still_past o [] place h = h
still_past None (b ∷ bs) place h = absurd cc
still_past (Some a) (b ∷ bs) place h = still_past (sooner (Some a) b) bs place (sooner_past a b place (before b a) refl h)

-- ## It is the first

kept_by : (c a : Broken) (bs : List Broken) (t : Bool) → (b : Broken) × (least (Some c) bs ≡ Some b) → (b : Broken)
    × (least (Some a) bs ≡ Some b) → (b : Broken) × (least (cond t (Some c) (Some a)) bs ≡ Some b)
kept_by c a bs true h k = h
kept_by c a bs false h k = k

-- where something was told, something is kept
kept_some : (bs : List Broken) (a : Broken) → (b : Broken) × (least (Some a) bs ≡ Some b)
kept_some [] a = (a, refl)
kept_some (c ∷ bs) a = kept_by c a bs (before c a) (kept_some bs c) (kept_some bs a)

pub none_told : (bs : List Broken) → least None bs ≡ None → bs ≡ []
none_told [] h = refl
none_told (b ∷ bs) h = let k = kept_some bs b in let e : Some k.0 ≡ None = sym k.1 ∙ h in absurd cc

-- the order, over places and ranks
abbrev lower : ℕ → ℕ → ℕ → ℕ → Bool
lower p r q s = nat_lt p q || (p == q && nat_lt r s)

not_lower : (p r q s u v : ℕ) → lower p r q s ≡ false → lower q s u v ≡ false → lower p r u v ≡ false
not_lower p r q s u v h k = grind arith

lower_past : (p r q s u v : ℕ) → lower p r q s ≡ true → lower p r u v ≡ false → lower q s u v ≡ false
lower_past p r q s u v h k = grind arith

irreflexive : (p r : ℕ) → lower p r p r ≡ false
irreflexive p r = grind arith

record Result_ (a b : Broken) (bs : List Broken) : Type 0 where
  member : (a ≡ b) ⊎ IsOneOf b bs
  not_a : before a b ≡ false
  rest : NoneBefore b bs

in_rest : (a b c : Broken) (bs : List Broken) → (a ≡ b) ⊎ IsOneOf b bs → (a ≡ b) ⊎ ((c ≡ b) ⊎ IsOneOf b bs)
in_rest a b c bs (inl e) = inl e
in_rest a b c bs (inr i) = inr (inr i)

keep : (a b c : Broken) (bs : List Broken) → Result_ a b bs → before c a ≡ false → Result_ a b (c ∷ bs)
keep a b c bs r e =
    record {
      member = in_rest a b c bs r.member;
      not_a = r.not_a;
      rest = (not_lower c.place (rank c.rule) a.place (rank a.rule) b.place (rank b.rule) e r.not_a, r.rest);
    }

change : (a b c : Broken) (bs : List Broken) → Result_ c b bs → before c a ≡ true → Result_ a b (c ∷ bs)
change a b c bs r e =
    record {
      member = inr r.member;
      not_a = lower_past c.place (rank c.rule) a.place (rank a.rule) b.place (rank b.rule) e r.not_a;
      rest = (r.not_a, r.rest);
    }

first_by : (a b c : Broken) (bs : List Broken) (t : Bool) → before c a ≡ t → ((x : Broken) → least (Some x) bs ≡ Some b → Result_ x b bs)
    → least (cond t (Some c) (Some a)) bs ≡ Some b → Result_ a b (c ∷ bs)
first_by a b c bs true e again h = change a b c bs (again c h) e
first_by a b c bs false e again h = keep a b c bs (again a h) e

first_of : (bs : List Broken) (a b : Broken) → least (Some a) bs ≡ Some b → Result_ a b bs
first_of [] a b h =
    let same : a ≡ b = cc in
    record { member = inl same; not_a = subst (λ (x : Broken). before a x ≡ false) same (irreflexive a.place (rank a.rule)); rest = tt }
first_of (c ∷ bs) a b h = first_by a b c bs (before c a) refl (λ x k. first_of bs x b k) h

pub first_told : (bs : List Broken) (b : Broken) → least None bs ≡ Some b → IsFirst bs b
first_told [] b h = absurd cc
first_told (c ∷ bs) b h = let r = first_of bs c b h in record { member = r.member; none_before = (r.not_a, r.rest) }
