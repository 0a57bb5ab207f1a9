-- Names that are known and names that are new, whatever the order in which they are kept.
use Rattle.std.proofs.Common.{◌≡◌, ◌∙◌, ap, sym, refl, subst, ℕ, ◌≤◌, Bool, true, false, List, [], ◌∷◌, ◌++◌, length, inl, inr, arith}
use Rattle.std.specs.Prelude.{◌||◌, if◌then◌else◌}
use Rattle.std.specs.List.{All, Contains, list_all, list_any}
use Rattle.std.specs.Str.{bytes_eq}
use Rattle.std.proofs.lemmas.Bool.{both_ways, and_parts, or_cases, or_parts, or_left, or_right}
use Rattle.std.proofs.lemmas.List.Elements.{All-nil, All-cons, Contains-append_left, Contains-append_right, Contains-append_cases}
use Rattle.std.proofs.lemmas.List.Elements.{Contains-push, Contains-push_cases}
use Rattle.std.proofs.lemmas.Slice.Eq.{bytes_eq-Decides}
use Rattle.std.specs.Cmp.Lexicographic.{slice_cmp}
use Rattle.std.specs.Ordering.{is_eq, match_ordering, nat_cmp}
use Rattle.std.specs.declared.cmp.Ordering.{Ordering}
use Rattle.std.specs.declared.cmp.Ordering.TheVariants.{Less, Equal, Greater}
use Rattle.std.proofs.lemmas.Map.Text.{is_eq-slice_cmp}
use Rattle.script_words.specs.Form.{is_among}
use Rattle.eden_script.specs.Names.{with_name, with_names}

-- ## One name more

swapped : (a b c : Bool) → (a || (b || c)) ≡ (b || (a || c))
swapped true true c = refl
swapped true false c = refl
swapped false true c = refl
swapped false false c = refl

one_more : (names : List (List ℕ)) (name x : List ℕ) → is_among (with_name names name) x ≡ (bytes_eq name x || is_among names x)
one_more [] name x = refl
one_more (n ∷ names) name x = placed (slice_cmp nat_cmp name n) refl (one_more names name x)
  where
    twice : (b c : Bool) → (b || c) ≡ (b || (b || c))
    twice true c = refl
    twice false c = refl

    there : slice_cmp nat_cmp name n ≡ Equal → name ≡ n
    there h = (bytes_eq-Decides name n).0 (sym (is_eq-slice_cmp name n) ∙ ap is_eq h)

    placed : (o : Ordering) → slice_cmp nat_cmp name n ≡ o → is_among (with_name names name) x ≡ (bytes_eq name x || is_among names x)
        → is_among (match_ordering o (name ∷ n ∷ names) (n ∷ names) (n ∷ with_name names name)) x
        ≡ (bytes_eq name x || is_among (n ∷ names) x)
    placed Less h later = refl
    placed Equal h later =
        twice (bytes_eq n x) (is_among names x) ∙ ap (λ (m : List ℕ). bytes_eq m x || (bytes_eq n x || is_among names x)) (sym (there h))
    placed Greater h later = ap (λ (b : Bool). bytes_eq n x || b) later ∙ swapped (bytes_eq n x) (bytes_eq name x) (is_among names x)

-- ## The same names in another order

abbrev pub SameNames : List (List ℕ) → List (List ℕ) → Type 0
SameNames names before = (x : List ℕ) → is_among names x ≡ is_among before x

pub same_names_more : (more names before : List (List ℕ)) → length more ≤ 1 → SameNames names before
    → SameNames (with_names names more) (more ++ before)
same_names_more [] names before short h x = h x
same_names_more (name ∷ []) names before short h x = one_more names name x ∙ ap (λ (b : Bool). bytes_eq name x || b) (h x)
same_names_more (name ∷ other ∷ more) names before short h x = absurd (omega (arith, short))

-- ## Tests and what they say

pub among : (names : List (List ℕ)) (x : List ℕ) → is_among names x ≡ true → Contains names x
among [] x h = absurd cc
among (n ∷ names) x h =
    elim (or_cases (bytes_eq n x) (is_among names x) h) [
      | inl e ↦ subst (λ (y : List ℕ). Contains (n ∷ names) y) ((bytes_eq-Decides n x).0 e)
          (Contains-append_left (n ∷ []) names n (Contains-push [] n))
      | inr e ↦ Contains-append_right (n ∷ []) names x (among names x e)
    ]

not_in_none : (x : List ℕ) → Contains [] x → ⊥
not_in_none x h = omega (arith, h.1)

pub among_back : (names : List (List ℕ)) (x : List ℕ) → Contains names x → is_among names x ≡ true
among_back [] x h = absurd (not_in_none x h)
among_back (n ∷ names) x h =
    elim (Contains-append_cases (n ∷ []) names x h) [
      | inl here ↦ elim (Contains-push_cases [] n x here) [
        | inl none ↦ absurd (not_in_none x none)
        | inr e ↦ or_left (bytes_eq n x) (is_among names x) ((bytes_eq-Decides n x).1 e)
      ]
      | inr there ↦ or_right (bytes_eq n x) (is_among names x) (among_back names x there)
    ]

-- each of some names is known
pub all_known : (names before xs : List (List ℕ)) → SameNames names before → list_all (is_among names) xs ≡ true → All (Contains before) xs
all_known names before [] h e = All-nil (Contains before)
all_known names before (x ∷ xs) h e =
    let parts = and_parts (is_among names x) (list_all (is_among names) xs) e in
    All-cons (Contains before) x xs (among before x (sym (h x) ∙ parts.0)) (all_known names before xs h parts.1)

-- none of some names is known
pub all_new : (names before xs : List (List ℕ)) → SameNames names before → list_any (is_among names) xs ≡ false
    → All (λ x. Contains before x → ⊥) xs
all_new names before [] h e = All-nil (λ x. Contains before x → ⊥)
all_new names before (x ∷ xs) h e =
    let parts = or_parts (is_among names x) (list_any (is_among names) xs) e in
    All-cons (λ x. Contains before x → ⊥) x xs (λ found. both_ways (is_among before x) (sym (h x) ∙ parts.0) (among_back before x found))
    (all_new names before xs h parts.1)
