-- A new head with the greatest sequence counts, and no other of its uid does any more.
use Rattle.std.specs.Prelude.{◌≡◌, Bool, true, false, not, ◌&&◌, ◌||◌, nat_le, nat_lt, List, ◌∷◌, ◌++◌, filter, if◌then◌else◌}
use Rattle.std.proofs.Common.{refl, sym, ap, ◌∙◌, arith}
use Rattle.std.proofs.lemmas.Bool.Decides.{nat_tests}
use Rattle.std.proofs.lemmas.List.Elements.{filter-append}
use Rattle.std.specs.List.{list_all}
use Rattle.block_tables.specs.Blocks.{Head, same_uid, counts, keeping}
use Rattle.block_tables.proofs.Closing.{lets, all_append, filter_in}

-- the heads of other uids that keep a value
abbrev pub keeps_beside : List Head → Head → Head → Bool
keeps_beside heads h g = (counts heads g && not g.removal) && not (same_uid h g)

abbrev pub is_earlier : Head → Head → Bool
is_earlier h g = nat_lt g.sequence h.sequence

counts_with : (front back : List Head) (h g : Head) → counts (front ++ h ∷ back) g ≡ (lets g h && counts (front ++ back) g)
counts_with front back h g =
    all_append (λ x. lets g x) front (h ∷ back)
    ∙ swap (list_all (λ x. lets g x) front) (lets g h) (list_all (λ x. lets g x) back)
    ∙ ap (λ b. lets g h && b) (sym (all_append (λ x. lets g x) front back))
  where
    swap : (a l b : Bool) → (a && (l && b)) ≡ (l && (a && b))
    swap true l b = refl
    swap false true b = refl
    swap false false b = refl

-- of an earlier head the new one lets count those of other uids alone
let_by_new : (h g : Head) → is_earlier h g ≡ true → lets g h ≡ not (same_uid h g)
let_by_new h g earlier = go (same_uid h g)
  where
    go : (b : Bool) → (not b || nat_le h.sequence g.sequence) ≡ not b
    go false = refl
    go true = grind (arith, nat_tests)

keeps_or_not : (front back : List Head) (h g : Head) → is_earlier h g ≡ true → (counts (front ++ h ∷ back) g && not g.removal)
    ≡ keeps_beside (front ++ back) h g
keeps_or_not front back h g earlier =
    ap (λ b. b && not g.removal) (counts_with front back h g ∙ ap (λ b. b && counts (front ++ back) g) (let_by_new h g earlier))
    ∙ turn (not (same_uid h g)) (counts (front ++ back) g) (not g.removal)
  where
    turn : (a b c : Bool) → ((a && b) && c) ≡ ((b && c) && a)
    turn true true true = refl
    turn true true false = refl
    turn true false c = refl
    turn false true true = refl
    turn false true false = refl
    turn false false c = refl

-- The heads that keep a value behind a change: those of other uids, and at its place the new one, where it has a value.
pub keeping_with : (front back : List Head) (h : Head) → list_all (is_earlier h) front ≡ true → list_all (is_earlier h) back ≡ true → counts
    (front ++ h ∷ back) h ≡ true →
    keeping (front ++ h ∷ back) ≡ filter (keeps_beside (front ++ back) h) front
    ++ (if h.removal then filter (keeps_beside (front ++ back) h) back else h ∷ filter (keeps_beside (front ++ back) h) back)
keeping_with front back h before behind is =
    let p : Head → Bool = λ g. counts (front ++ h ∷ back) g && not g.removal in
    let q : Head → Bool = keeps_beside (front ++ back) h in
    filter-append p front (h ∷ back)
    ∙ ap (λ xs. xs ++ filter p (h ∷ back)) (filter_in p q (is_earlier h) front before (λ x e. keeps_or_not front back h x e))
    ∙ ap (λ xs. filter q front ++ xs)
    (ap (λ b. if b && not h.removal then h ∷ filter p back else filter p back) is
    ∙ ap (λ xs. if not h.removal then h ∷ xs else xs) (filter_in p q (is_earlier h) back behind (λ x e. keeps_or_not front back h x e))
    ∙ turned h.removal (h ∷ filter q back) (filter q back))
  where
    turned : (b : Bool) (xs ys : List Head) → (if not b then xs else ys) ≡ (if b then ys else xs)
    turned true xs ys = refl
    turned false xs ys = refl
