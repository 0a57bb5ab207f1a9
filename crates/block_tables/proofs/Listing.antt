-- How many of some numbers pass a test, once one of them does not any more.
use Rattle.std.proofs.Common.{◌≡◌, ℕ, suc, zero, ◌+◌, ◌≤◌, ◌<◌, Bool, true, false, ◌||◌, ◌&&◌, not, ◌==◌, List, [], ◌∷◌}
use Rattle.std.proofs.Common.{length, eq-eqb, refl, sym, ap, subst, ◌∙◌, arith, inl, inr}
use Rattle.std.specs.Prelude.{filter, if◌then◌else◌}
use Rattle.std.proofs.lemmas.Bool.{false≢true, cases_eq, ne_eqb, or_left, or_right}
use Rattle.block_tables.specs.Blocks.{numbers, has}
use Rattle.block_tables.specs.Members.{is_member}

pub has_number : (n from count : ℕ) → from ≤ n → n < from + count → has n (numbers from count) ≡ true
unfolding numbers
has_number n from zero above below = absurd (omega (arith, above, below))
has_number n from (suc count) above below = elim (cases_eq from n) [
  | inl same ↦ or_left (from == n) (has n (numbers (from + 1) count)) (eq-eqb from n same)
  | inr other ↦ or_right (from == n) (has n (numbers (from + 1) count))
      (has_number n (from + 1) count (omega (arith, above, other)) (omega (arith, below)))
]

no_more : (q p : Bool) (x : ℕ) (qs ps : List ℕ) → (q ≡ true → p ≡ true) → length qs ≤ length ps
    → length (if q then x ∷ qs else qs) ≤ length (if p then x ∷ ps else ps)
no_more true p x qs ps to less = subst (λ b. suc (length qs) ≤ length (if b then x ∷ ps else ps)) (sym (to refl)) (omega (arith, less))
no_more false true x qs ps to less = omega (arith, less)
no_more false false x qs ps to less = less

at_most : (q p : ℕ → Bool) (ns : List ℕ) → ((k : ℕ) → q k ≡ true → p k ≡ true) → length (filter q ns) ≤ length (filter p ns)
at_most q p [] to = omega arith
at_most q p (n ∷ ns) to = no_more (q n) (p n) n (filter q ns) (filter p ns) (to n) (at_most q p ns to)

less_one : (q p : Bool) (x : ℕ) (qs ps : List ℕ) → (q ≡ true → p ≡ true) → suc (length qs) ≤ length ps
    → suc (length (if q then x ∷ qs else qs)) ≤ length (if p then x ∷ ps else ps)
less_one true p x qs ps to less = subst (λ b. suc (suc (length qs)) ≤ length (if b then x ∷ ps else ps)) (sym (to refl))
    (omega (arith, less))
less_one false true x qs ps to less = omega (arith, less)
less_one false false x qs ps to less = less

out_and_in : (q p : Bool) (x : ℕ) (qs ps : List ℕ) → q ≡ false → p ≡ true → length qs ≤ length ps
    → suc (length (if q then x ∷ qs else qs)) ≤ length (if p then x ∷ ps else ps)
out_and_in true p x qs ps out is less = absurd (false≢true (sym out))
out_and_in false true x qs ps out is less = omega (arith, less)
out_and_in false false x qs ps out is less = absurd (false≢true is)

behind : (a b : Bool) → a ≡ false → (a || b) ≡ true → b ≡ true
behind true b none is = absurd (false≢true (sym none))
behind false b none is = is

-- one that passes no more is one fewer
pub fewer : (q p : ℕ → Bool) (n : ℕ) (ns : List ℕ) → ((k : ℕ) → q k ≡ true → p k ≡ true) → p n ≡ true → q n ≡ false
    → has n ns ≡ true → suc (length (filter q ns)) ≤ length (filter p ns)
fewer q p n [] to is out there = absurd (false≢true there)
fewer q p n (x ∷ ns) to is out there = elim (cases_eq x n) [
  | inl same ↦ out_and_in (q x) (p x) x (filter q ns) (filter p ns) (ap q same ∙ out) (ap p same ∙ is) (at_most q p ns to)
  | inr other ↦ less_one (q x) (p x) x (filter q ns) (filter p ns) (to x)
      (fewer q p n ns to is out (behind (x == n) (has n ns) (ne_eqb x n other) there))
]

-- the members of a set
abbrev pub members_of : List ℕ → List ℕ
members_of marks = filter (is_member marks) (numbers 0 (length marks))

second : (a b : Bool) → (a && b) ≡ true → b ≡ true
second true b is = is
second false b is = absurd (false≢true is)

pub fewer_members : (old marks : List ℕ) (n : ℕ) → length marks ≡ length old → n < length old → is_member old n ≡ true
    → ((k : ℕ) → is_member marks k ≡ (not (k == n) && is_member old k)) → length (members_of marks) < length (members_of old)
fewer_members old marks n long within is members =
    let less : suc (length (filter (is_member marks) (numbers 0 (length old)))) ≤ length (members_of old) =
    fewer (is_member marks) (is_member old) n (numbers 0 (length old))
    (λ k there. second (not (k == n)) (is_member old k) (sym (members k) ∙ there)) is
    (members n ∙ ap (λ b. not b && is_member old n) (eq-eqb n n refl)) (has_number n 0 (length old) (omega arith) (omega (arith, within)))
    in
    omega (arith, less, ap (λ count. length (filter (is_member marks) (numbers 0 count))) long)
