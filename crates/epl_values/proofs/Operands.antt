-- What operators give, from what the code's own calls tell.
use Rattle.std.proofs.Common.{◌≡◌, ℕ, zero, suc, ◌+◌, ◌<◌, ◌↔◌, Bool, true, false, ◌&&◌, ◌==◌, ◌++◌, refl, ap, sym, ◌∙◌}
use Rattle.std.proofs.Common.{List, [], ◌∷◌, length, take, drop, get_or, Option, None, Some, Result, Ok, Err, arith, rules, ℤ, pos, negsuc}
use Rattle.std.proofs.Common.{nat_lt, if◌then◌else◌, subst}
use Rattle.std.specs.Prelude.{IsTrue, slice_set, slice_get, not}
use Rattle.std.specs.declared.cmp.Ordering.{Ordering}
use Rattle.std.specs.declared.cmp.Ordering.TheVariants as order
use Rattle.std.specs.Ordering.{nat_cmp, is_eq}
use Rattle.std.specs.Cmp.{eq_by_cmp_equiv}
use Rattle.std.specs.Cmp.Lexicographic.{slice_cmp, nat_list_cmp_total}
use Rattle.std.proofs.lemmas.Bool.Decides.{Decides-int_eq, Decides-eqb, nat_tests}
use Rattle.std.proofs.lemmas.Map.Lookups.{exact_bytes}
use Rattle.capability.specs.declared.Cap.{Cap}
use Rattle.capability.specs.declared.Rights.{Rights}
use Rattle.capability.specs.Uids.{uid_cmp}
use Rattle.capability.proofs.Uids.{uid_cmp_total, uid_cmp-IsAntisymmetric}
use Rattle.eden_value.specs.Datum.{Datum, Data, number, truth, text, cap, list, no_data, data_and, items_of, data_of}
use Rattle.eden_value.specs.Code.{items_of-data_of}
use Rattle.eden_value.specs.View.{datum, datums}
use Rattle.eden_value.proofs.Laws.{same_values}
use Rattle.eden_value.specs.declared.value.Value.{Value}
use Rattle.eden_value.specs.declared.value.Value.TheVariants.{List as Listed}
use Rattle.eden_model.specs.Map.{same_text, same_uid, with_item}
use Rattle.epl_syntax.specs.declared.tree.Operator.{Operator}
use Rattle.epl_syntax.specs.declared.tree.Operator.TheVariants.{Equal, Different}
use Rattle.epl_syntax.specs.declared.effect.FaultCause.TheVariants as fault
use Rattle.epl_syntax.specs.Operators.{place_in, found, list_of, of_both, size_of}
use Rattle.epl_values.specs.Comes.{Comes}
use Rattle.epl_values.specs.declared.stop.Stop.{Stop}
use Rattle.epl_syntax.specs.Same.{same, same_data, same_truth, same_cap}

-- the items of a list, as a list
pub listed : (ds : List Datum) → items_of (data_of ds) ≡ ds
listed ds = items_of-data_of ds

-- ---- lists of the code
pub length_datums : (vs : List Value) → length (datums vs) ≡ length vs
length_datums [] = refl
length_datums (v ∷ vs) = ap suc (length_datums vs)

pub append_datums : (vs ws : List Value) → datums (vs ++ ws) ≡ datums vs ++ datums ws
append_datums [] ws = refl
append_datums (v ∷ vs) ws = ap (λ ds. datum v ∷ ds) (append_datums vs ws)

pub take_datums : (n : ℕ) (vs : List Value) → datums (take n vs) ≡ take n (datums vs)
take_datums zero [] = refl
take_datums zero (v ∷ vs) = refl
take_datums (suc n) [] = refl
take_datums (suc n) (v ∷ vs) = ap (λ ds. datum v ∷ ds) (take_datums n vs)

pub drop_datums : (n : ℕ) (vs : List Value) → datums (drop n vs) ≡ drop n (datums vs)
drop_datums zero [] = refl
drop_datums zero (v ∷ vs) = refl
drop_datums (suc n) [] = refl
drop_datums (suc n) (v ∷ vs) = drop_datums n vs

pub set_datums : (vs : List Value) (i : ℕ) (v : Value) → datums (slice_set vs i v) ≡ slice_set (datums vs) i (datum v)
set_datums [] i v = refl
set_datums (w ∷ vs) zero v = refl
set_datums (w ∷ vs) (suc i) v = ap (λ ds. datum w ∷ ds) (set_datums vs i v)

pub get_datums : (vs : List Value) (i : ℕ) (v : Value) → i < length vs → v ≡ get_or vs i v → slice_get (datums vs) i ≡ Some (datum v)
get_datums [] i v h e = absurd (omega arith)
get_datums (w ∷ vs) zero v h e = ap (λ x. Some (datum x)) (sym e)
get_datums (w ∷ vs) (suc i) v h e = get_datums vs i v (omega arith) e

-- ---- places
pub within : (size : ℕ) (n : ℤ) (i : ℕ) → place_in size n ≡ Ok i → i < size
within size (pos n) i h = by (nat_lt n size) refl h
  where
    by : (b : Bool) → nat_lt n size ≡ b → (if b then Ok n else Err fault.BadIndex) ≡ Ok i → i < size
    by true e k =
        let same : n ≡ i = cc in
        grind (arith, nat_tests)
    by false e k = absurd cc
within size (negsuc n) i h = absurd cc

-- ---- equality
-- truth values that are the same
truths : (a b : Bool) → same_truth a b ≡ true → a ≡ b
truths true true h = refl
truths true false h = absurd cc
truths false true h = absurd cc
truths false false h = refl

truths_back : (a : Bool) → same_truth a a ≡ true
truths_back true = refl
truths_back false = refl

alike : (o : Ordering) → is_eq o ≡ true → o ≡ order.Equal
alike order.Less h = absurd cc
alike order.Equal h = refl
alike order.Greater h = absurd cc

pub texts : (a b : List ℕ) → same_text a b ≡ true → a ≡ b
texts a b h = exact_bytes a b (alike (slice_cmp nat_cmp a b) h)

texts_back : (a : List ℕ) → same_text a a ≡ true
texts_back a = (eq_by_cmp_equiv nat_list_cmp_total).refl a

both : (a b : Bool) → (a && b) ≡ true → (a ≡ true) × (b ≡ true)
both true b h = (refl, h)
both false b h = absurd cc

both_back : (a b : Bool) → a ≡ true → b ≡ true → (a && b) ≡ true
both_back true b h k = k
both_back false b h k = absurd cc

rights_are : (a b : Rights) → (a.bits == b.bits) ≡ true → a ≡ b
rights_are a b h = let e = (Decides-eqb a.bits b.bits).0 h in λ i. record { bits = e i }

caps_are : (a b : Option Cap) → same_cap a b ≡ true → a ≡ b
caps_are None None h = refl
caps_are None (Some b) h = absurd cc
caps_are (Some a) None h = absurd cc
caps_are (Some a) (Some b) h =
    let p = both (same_uid a.uid b.uid) (a.rights.bits == b.rights.bits) h in
    let u : a.uid ≡ b.uid = uid_cmp-IsAntisymmetric a.uid b.uid (alike (uid_cmp a.uid b.uid) p.0) in
    let r : a.rights ≡ b.rights = rights_are a.rights b.rights p.1 in
    λ i. Some (record { uid = u i; rights = r i })

caps_back : (a : Option Cap) → same_cap a a ≡ true
caps_back None = refl
caps_back (Some a) = both_back (same_uid a.uid a.uid) (a.rights.bits == a.rights.bits)
    ((eq_by_cmp_equiv uid_cmp_total).refl a.uid) ((Decides-eqb a.rights.bits a.rights.bits).1 refl)

mutual
  same_are : (a b : Datum) → same a b ≡ true → a ≡ b
  same_are (number a) (number b) h = ap number ((Decides-int_eq a b).0 h)
  same_are (truth a) (truth b) h = ap truth (truths a b h)
  same_are (text a) (text b) h = ap text (texts a b h)
  same_are (cap a) (cap b) h = ap cap (caps_are a b h)
  same_are (list a) (list b) h = ap list (data_are a b h)
  same_are (number a) (truth b) h = absurd cc
  same_are (number a) (text b) h = absurd cc
  same_are (number a) (cap b) h = absurd cc
  same_are (number a) (list b) h = absurd cc
  same_are (truth a) (number b) h = absurd cc
  same_are (truth a) (text b) h = absurd cc
  same_are (truth a) (cap b) h = absurd cc
  same_are (truth a) (list b) h = absurd cc
  same_are (text a) (number b) h = absurd cc
  same_are (text a) (truth b) h = absurd cc
  same_are (text a) (cap b) h = absurd cc
  same_are (text a) (list b) h = absurd cc
  same_are (cap a) (number b) h = absurd cc
  same_are (cap a) (truth b) h = absurd cc
  same_are (cap a) (text b) h = absurd cc
  same_are (cap a) (list b) h = absurd cc
  same_are (list a) (number b) h = absurd cc
  same_are (list a) (truth b) h = absurd cc
  same_are (list a) (text b) h = absurd cc
  same_are (list a) (cap b) h = absurd cc

  data_are : (a b : Data) → same_data a b ≡ true → a ≡ b
  data_are no_data no_data h = refl
  data_are no_data (data_and b y) h = absurd cc
  data_are (data_and a x) no_data h = absurd cc
  data_are (data_and a x) (data_and b y) h =
      let p = both (same a b) (same_data x y) h in
      let e = same_are a b p.0 in
      let f = data_are x y p.1 in
      λ i. data_and (e i) (f i)

mutual
  same_back : (a : Datum) → same a a ≡ true
  same_back (number a) = (Decides-int_eq a a).1 refl
  same_back (truth a) = truths_back a
  same_back (text a) = texts_back a
  same_back (cap a) = caps_back a
  same_back (list a) = data_back a

  data_back : (a : Data) → same_data a a ≡ true
  data_back no_data = refl
  data_back (data_and a x) = both_back (same a a) (same_data x x) (same_back a) (data_back x)

-- values of the code are compared as the meaning compares them
value_is : (a b : Value) → datum a ≡ datum b → a ≡ b
value_is a b e = head (same_values (a ∷ []) (b ∷ []) (ap (λ d. d ∷ []) e))
  where
    head : a ∷ [] ≡ b ∷ [] → a ≡ b
    head h = cc

pub compared : (r : Bool) (a b : Value) → IsTrue r ↔ (a ≡ b) → same (datum a) (datum b) ≡ r
compared true a b h = ap (λ d. same (datum a) d) (sym (ap datum (h.0 is_true))) ∙ same_back (datum a)
  where
    is_true : IsTrue true
    is_true = search rules
compared false a b h = by (same (datum a) (datum b)) refl
  where
    by : (s : Bool) → same (datum a) (datum b) ≡ s → s ≡ false
    by false e = refl
    by true e = absurd (never (h.1 (value_is a b (same_are (datum a) (datum b) e))))
      where
        never : IsTrue false → ⊥
        never k = search rules

-- ---- the functions of lists
pub item_found : (ds : List Datum) (vs : List Value) (n : ℤ) (i : ℕ) (v : Value) → datums vs ≡ ds → place_in (length vs) n ≡ Ok i
    → v ≡ get_or vs i v
    → found (place_in (length (items_of (data_of ds))) n) (λ i. with_item (slice_get (items_of (data_of ds)) i) Ok (Err fault.BadIndex))
    ≡ Ok (datum v)
item_found ds vs n i v view place e =
    let same : items_of (data_of ds) ≡ datums vs = listed ds ∙ sym view in
    ap (λ xs. found (place_in (length xs) n) (λ i. with_item (slice_get xs i) Ok (Err fault.BadIndex))) same
    ∙ ap (λ k. found (place_in k n) (λ i. with_item (slice_get (datums vs) i) Ok (Err fault.BadIndex))) (length_datums vs)
    ∙ ap (λ p. found p (λ i. with_item (slice_get (datums vs) i) Ok (Err fault.BadIndex))) place
    ∙ ap (λ o. with_item o Ok (Err fault.BadIndex)) (get_datums vs i v (within (length vs) n i place) e)

pub cut_found : (ds : List Datum) (vs new : List Value) (n : ℤ) (i : ℕ) (r : Result Value Stop) → datums vs ≡ ds
    → place_in (length vs) n ≡ Ok i → new ≡ take i vs ++ drop (suc i) vs → Comes datum r (list_of (datums new))
    → Comes datum r (found (place_in (length (items_of (data_of ds))) n)
    (λ k. list_of (take k (items_of (data_of ds)) ++ drop (k + 1) (items_of (data_of ds)))))
cut_found ds vs new n i r view place e h = subst (Comes datum r) (sym path) h
  where
    same : items_of (data_of ds) ≡ datums vs
    same = listed ds ∙ sym view

    cut : take i (datums vs) ++ drop (i + 1) (datums vs) ≡ datums new
    cut =
        let one : i + 1 ≡ suc i = omega arith in
        ap (λ k. take i (datums vs) ++ drop k (datums vs)) one
        ∙ ap (λ xs. xs ++ drop (suc i) (datums vs)) (sym (take_datums i vs))
        ∙ ap (λ xs. datums (take i vs) ++ xs) (sym (drop_datums (suc i) vs))
        ∙ sym (append_datums (take i vs) (drop (suc i) vs)) ∙ ap datums (sym e)

    path : found (place_in (length (items_of (data_of ds))) n)
        (λ k. list_of (take k (items_of (data_of ds)) ++ drop (k + 1) (items_of (data_of ds)))) ≡ list_of (datums new)
    path =
        ap (λ xs. found (place_in (length xs) n) (λ k. list_of (take k xs ++ drop (k + 1) xs))) same
        ∙ ap (λ m. found (place_in m n) (λ k. list_of (take k (datums vs) ++ drop (k + 1) (datums vs)))) (length_datums vs)
        ∙ ap (λ p. found p (λ k. list_of (take k (datums vs) ++ drop (k + 1) (datums vs)))) place
        ∙ ap list_of cut

pub size_listed : (v : Value) (items : List Datum) (vs : List Value) (n : ℕ) (z : ℤ) → v ≡ Listed items → datums vs ≡ items → n ≡ length vs
    → z ≡ pos n → size_of (datum v) ≡ Ok (number z)
size_listed v items vs n z is view size e =
    ap (λ w. size_of (datum w)) is
    ∙ ap (λ ds. Ok (number (pos (length ds)))) (listed items ∙ sym view)
    ∙ ap (λ k. Ok (number (pos k))) (length_datums vs ∙ sym size)
    ∙ ap (λ k. Ok (number k)) (sym e)

pub equal_is : (operator : Operator) (a b : Value) (r : Bool) → operator ≡ Equal → IsTrue r ↔ (a ≡ b)
    → of_both operator (datum a) (datum b) ≡ Ok (truth r)
equal_is operator a b r is h =
    ap (λ o. of_both o (datum a) (datum b)) is ∙ ap (λ s. Ok (truth s)) (compared r a b h)

pub different_is : (operator : Operator) (a b : Value) (r : Bool) → operator ≡ Different → IsTrue r ↔ (a ≡ b)
    → of_both operator (datum a) (datum b) ≡ Ok (truth (not r))
different_is operator a b r is h =
    ap (λ o. of_both o (datum a) (datum b)) is ∙ ap (λ s. Ok (truth (not s))) (compared r a b h)
