-- A head that does not matter may be open or closed.
use Rattle.std.specs.Prelude.{◌≡◌, Bool, true, false, not, ◌&&◌, ◌||◌, nat_le, nat_lt, List, [], ◌∷◌, ◌++◌, filter, if◌then◌else◌}
use Rattle.std.proofs.Common.{refl, sym, ap, ◌∙◌, arith}
use Rattle.std.proofs.lemmas.Bool.{false≢true}
use Rattle.std.proofs.lemmas.Bool.Decides.{nat_tests}
use Rattle.std.specs.List.{list_all}
use Rattle.std.specs.Ordering.{eq_by_cmp, is_eq}
use Rattle.std.specs.declared.cmp.Ordering.{Ordering}
use Rattle.std.specs.declared.cmp.Ordering.TheVariants.{Less, Equal, Greater}
use Rattle.capability.specs.Uids.{uid_cmp}
use Rattle.capability.proofs.Uids.{uid_cmp-IsAntisymmetric}
use Rattle.block_tables.specs.Blocks.{Head, same_uid, counts, keeping}

-- a head lets another of its uid count
abbrev pub lets : Head → Head → Bool
lets g x = not (same_uid x g) || nat_le x.sequence g.sequence

pub all_append : (p : Head → Bool) (xs ys : List Head) → list_all p (xs ++ ys) ≡ (list_all p xs && list_all p ys)
all_append p [] ys = refl
all_append p (x ∷ xs) ys = ap (λ b. p x && b) (all_append p xs ys) ∙ assoc (p x) (list_all p xs) (list_all p ys)
  where
    assoc : (a b c : Bool) → (a && (b && c)) ≡ ((a && b) && c)
    assoc true b c = refl
    assoc false b c = refl

between : (a l b : Bool) → (a ≡ true → b ≡ true → l ≡ true) → (a && (l && b)) ≡ (a && b)
between false l b h = refl
between true true b h = refl
between true false false h = refl
between true false true h = absurd (false≢true (h refl refl))

counts_without : (front back : List Head) (h g : Head) → (list_all (λ x. lets g x) front ≡ true → list_all (λ x. lets g x) back ≡ true
    → lets g h ≡ true) → counts (front ++ h ∷ back) g ≡ counts (front ++ back) g
counts_without front back h g lies =
    all_append (λ x. lets g x) front (h ∷ back)
    ∙ between (list_all (λ x. lets g x) front) (lets g h) (list_all (λ x. lets g x) back) lies
    ∙ sym (all_append (λ x. lets g x) front back)

tied : (o : Ordering) → is_eq o ≡ true → o ≡ Equal
tied Less h = absurd (false≢true h)
tied Equal h = refl
tied Greater h = absurd (false≢true h)

-- A later head of a uid lets count what an earlier one lets count, and more.
earlier_lets : (s h g : Head) → same_uid s h ≡ true → nat_lt h.sequence s.sequence ≡ true → lets g s ≡ true → lets g h ≡ true
earlier_lets s h g same later is =
    let uids : s.uid ≡ h.uid = uid_cmp-IsAntisymmetric s.uid h.uid (tied (uid_cmp s.uid h.uid) same) in
    by_sequence (same_uid h g) (ap (λ u. not (eq_by_cmp uid_cmp u g.uid) || nat_le s.sequence g.sequence) (sym uids) ∙ is)
  where
    by_sequence : (b : Bool) → (not b || nat_le s.sequence g.sequence) ≡ true → (not b || nat_le h.sequence g.sequence) ≡ true
    by_sequence false is = refl
    by_sequence true is = grind (arith, nat_tests)

filter_same : (p q : Head → Bool) (xs : List Head) → ((x : Head) → p x ≡ q x) → filter p xs ≡ filter q xs
filter_same p q [] same = refl
filter_same p q (x ∷ xs) same = ap (λ b. if b then x ∷ filter p xs else filter p xs) (same x) ∙ ap (λ ys. if q x then x ∷ ys else ys)
    (filter_same p q xs same)

filter_without : (p : Head → Bool) (front back : List Head) (h : Head) → p h ≡ false → filter p (front ++ h ∷ back) ≡ filter p
    (front ++ back)
filter_without p [] back h out = ap (λ b. if b then h ∷ filter p back else filter p back) out
filter_without p (x ∷ front) back h out = ap (λ ys. if p x then x ∷ ys else ys) (filter_without p front back h out)

-- The heads that keep a value are the same with and without a head that keeps none and stops no other from counting.
pub keeping_without : (front back : List Head) (h : Head) → (counts (front ++ h ∷ back) h && not h.removal) ≡ false →
    ((g : Head) → list_all (λ x. lets g x) front ≡ true → list_all (λ x. lets g x) back ≡ true → lets g h ≡ true) → keeping
    (front ++ h ∷ back) ≡ keeping (front ++ back)
keeping_without front back h keeps_none lies =
    let same = λ (g : Head). ap (λ b. b && not g.removal) (counts_without front back h g (lies g)) in
    filter_same (λ g. counts (front ++ h ∷ back) g && not g.removal) (λ g. counts (front ++ back) g && not g.removal) (front ++ h ∷ back)
    same
    ∙ filter_without (λ g. counts (front ++ back) g && not g.removal) front back h (sym (same h) ∙ keeps_none)

-- So it is of a head behind which another of its uid came.
pub superseded_lies : (front back : List Head) (s h : Head) → same_uid s h ≡ true → nat_lt h.sequence s.sequence ≡ true →
    ((p : Head → Bool) → list_all p front ≡ true → list_all p back ≡ true → p s ≡ true) →
    (g : Head) → list_all (λ x. lets g x) front ≡ true → list_all (λ x. lets g x) back ≡ true → lets g h ≡ true
superseded_lies front back s h same later among g before behind = earlier_lets s h g same later (among (λ x. lets g x) before behind)

pub filter_in : (p q r : Head → Bool) (xs : List Head) → list_all r xs ≡ true → ((x : Head) → r x ≡ true → p x ≡ q x) → filter p xs ≡ filter
    q xs
filter_in p q r [] all same = refl
filter_in p q r (x ∷ xs) all same = go (r x) refl all (λ rest. filter_in p q r xs rest same)
  where
    go : (b : Bool) → r x ≡ b → (b && list_all r xs) ≡ true → (list_all r xs ≡ true → filter p xs ≡ filter q xs) → filter p (x ∷ xs)
        ≡ filter q (x ∷ xs)
    go true is rest behind = ap (λ c. if c then x ∷ filter p xs else filter p xs) (same x is) ∙ ap (λ ys. if q x then x ∷ ys else ys)
        (behind rest)
    go false is rest behind = absurd (false≢true rest)

-- And so of a removal that is the only open head of its uid.
pub keeping_without_lone : (front back : List Head) (h : Head) → h.removal ≡ true → list_all (λ x. not (same_uid h x)) (front ++ back)
    ≡ true → keeping (front ++ h ∷ back) ≡ keeping (front ++ back)
keeping_without_lone front back h removal alone =
    filter_without (λ g. counts (front ++ h ∷ back) g && not g.removal) front back h
    (ap (λ b. counts (front ++ h ∷ back) h && not b) removal ∙ never (counts (front ++ h ∷ back) h))
    ∙ filter_in (λ g. counts (front ++ h ∷ back) g && not g.removal) (λ g. counts (front ++ back) g && not g.removal)
    (λ x. not (same_uid h x)) (front ++ back) alone
    (λ x other. ap (λ b. b && not x.removal) (counts_without front back h x
    (λ before behind. ap (λ b. b || nat_le h.sequence x.sequence) other)))
  where
    never : (b : Bool) → (b && false) ≡ false
    never true = refl
    never false = refl
