-- Heads among others.
use Rattle.std.specs.Prelude.{◌≡◌, ◌⊎◌, Bool, true, false, ◌&&◌, List, [], ◌∷◌, filter, if◌then◌else◌}
use Rattle.std.proofs.Common.{refl, sym, ap, subst, ◌∙◌, inl, inr}
use Rattle.std.specs.List.{list_all}
use Rattle.std.proofs.lemmas.Bool.{false≢true}
use Rattle.block_tables.specs.Blocks.{Head}

abbrev pub In : Head → List Head → Type 0
In h [] = ⊥
In h (x ∷ xs) = (h ≡ x) ⊎ In h xs

pub left_true : (a b : Bool) → (a && b) ≡ true → a ≡ true
left_true true b h = refl
left_true false b h = h

pub right_true : (a b : Bool) → (a && b) ≡ true → b ≡ true
right_true true b h = h
right_true false b h = absurd (false≢true h)

pub both_true : (a b : Bool) → a ≡ true → b ≡ true → (a && b) ≡ true
both_true true b p q = q
both_true false b p q = p

-- two tests that pass together are one
pub as_true : (a b : Bool) → (a ≡ true → b ≡ true) → (b ≡ true → a ≡ true) → a ≡ b
as_true true true p q = refl
as_true true false p q = sym (p refl)
as_true false true p q = q refl
as_true false false p q = refl

pub all_in : (r : Head → Bool) (hs : List Head) (h : Head) → list_all r hs ≡ true → In h hs → r h ≡ true
all_in r [] h all there = absurd there
all_in r (x ∷ xs) h all (inl same) = ap r same ∙ left_true (r x) (list_all r xs) all
all_in r (x ∷ xs) h all (inr there) = all_in r xs h (right_true (r x) (list_all r xs) all) there

pub in_all : (r : Head → Bool) (hs : List Head) → ((h : Head) → In h hs → r h ≡ true) → list_all r hs ≡ true
in_all r [] each = refl
in_all r (x ∷ xs) each = both_true (r x) (list_all r xs) (each x (inl refl)) (in_all r xs (λ h there. each h (inr there)))

pub in_filter : (p : Head → Bool) (hs : List Head) (h : Head) → In h hs → p h ≡ true → In h (filter p hs)
in_filter p [] h there is = there
in_filter p (x ∷ xs) h (inl same) is =
    let here : p x ≡ true = ap p (sym same) ∙ is in
    subst (λ b. In h (if b then x ∷ filter p xs else filter p xs)) (sym here) (inl same)
in_filter p (x ∷ xs) h (inr there) is = go (p x) (in_filter p xs h there is)
  where
    go : (b : Bool) → In h (filter p xs) → In h (if b then x ∷ filter p xs else filter p xs)
    go true rest = inr rest
    go false rest = rest

pub of_filter : (p : Head → Bool) (hs : List Head) (h : Head) → In h (filter p hs) → In h hs × (p h ≡ true)
of_filter p [] h there = absurd there
of_filter p (x ∷ xs) h there = go (p x) refl (of_filter p xs h) there
  where
    go : (b : Bool) → p x ≡ b → (In h (filter p xs) → In h xs × (p h ≡ true)) → In h (if b then x ∷ filter p xs else filter p xs)
        → In h (x ∷ xs) × (p h ≡ true)
    go true is rest (inl same) = (inl same, ap p same ∙ is)
    go true is rest (inr behind) =
        let r = rest behind in
        (inr r.0, r.1)
    go false is rest behind =
        let r = rest behind in
        (inr r.0, r.1)

pub filter_alike : (p q : Head → Bool) (hs : List Head) → ((h : Head) → In h hs → p h ≡ q h) → filter p hs ≡ filter q hs
filter_alike p q [] each = refl
filter_alike p q (x ∷ xs) each =
    ap (λ b. if b then x ∷ filter p xs else filter p xs) (each x (inl refl))
    ∙ ap (λ ys. if q x then x ∷ ys else ys) (filter_alike p q xs (λ h there. each h (inr there)))

pub filter_twice : (p q : Head → Bool) (hs : List Head) → filter q (filter p hs) ≡ filter (λ h. p h && q h) hs
filter_twice p q [] = refl
filter_twice p q (x ∷ xs) = go (p x) (filter_twice p q xs)
  where
    go : (b : Bool) → filter q (filter p xs) ≡ filter (λ h. p h && q h) xs
        → filter q (if b then x ∷ filter p xs else filter p xs)
        ≡ (if b && q x then x ∷ filter (λ h. p h && q h) xs else filter (λ h. p h && q h) xs)
    go true rest = ap (λ ys. if q x then x ∷ ys else ys) rest
    go false rest = rest
