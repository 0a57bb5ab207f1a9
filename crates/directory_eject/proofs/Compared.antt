-- The comparison of values: those that are the same for the meaning are one, and so the code's comparison is that of the meaning.
use Rattle.std.proofs.Common.{◌≡◌, ◌↔◌, ◌==◌, Bool, true, false, ◌&&◌}
use Rattle.std.proofs.Common.{Option, None, Some, refl, sym, ap, ◌∙◌, true≢false}
use Rattle.std.proofs.Common.{IsTrue, eqb-true}
use Rattle.std.specs.Cmp.{first_so, second_so, nat_eq_equiv, int_eq_equiv, eq_by_cmp_equiv, Equal-is}
use Rattle.std.specs.Cmp.Lexicographic.{nat_list_eq_equiv}
use Rattle.std.proofs.lemmas.Bool.Decides.{Decides-int_eq}
use Rattle.capability.specs.Uids.{uid_cmp}
use Rattle.capability.specs.declared.Cap.{Cap}
use Rattle.capability.proofs.Uids.{uid_cmp_total, uid_cmp-IsAntisymmetric}
use Rattle.eden_value.specs.Datum.{Datum, Data, number, truth, text, cap, list, no_data, data_and}
use Rattle.eden_value.specs.View.{datum}
use Rattle.eden_value.specs.declared.value.Value.{Value}
use Rattle.eden_value.proofs.Laws.{same_value}
use Rattle.eden_model.specs.Map.{same_uid}
use Rattle.epl_syntax.specs.Same.{same, same_data, same_cap, same_truth}
use Rattle.epl_syntax.proofs.SameText.{same_as_pointwise}
use Rattle.directory_eject.proofs.Begins.{one_text}

both : (a b : Bool) → a ≡ true → b ≡ true → (a && b) ≡ true
both a b h k = λ i. h i && k i

cap_itself : (c : Option Cap) → same_cap c c ≡ true
cap_itself None = refl
cap_itself (Some c) =
    both (same_uid c.uid c.uid) (c.rights.bits == c.rights.bits) ((eq_by_cmp_equiv uid_cmp_total).refl c.uid)
    (nat_eq_equiv.refl c.rights.bits)

truth_itself : (b : Bool) → same_truth b b ≡ true
truth_itself true = refl
truth_itself false = refl

mutual
  -- a value is the same as itself
  pub itself : (d : Datum) → same d d ≡ true
  itself (number n) = int_eq_equiv.refl n
  itself (truth b) = truth_itself b
  itself (text t) = same_as_pointwise t t ∙ nat_list_eq_equiv.refl t
  itself (cap c) = cap_itself c
  itself (list ds) = data_itself ds

  data_itself : (ds : Data) → same_data ds ds ≡ true
  data_itself no_data = refl
  data_itself (data_and d ds) = both (same d d) (same_data ds ds) (itself d) (data_itself ds)

one_truth : (a b : Bool) → same_truth a b ≡ true → a ≡ b
one_truth true b h = sym h
one_truth false true h = absurd (true≢false (sym h))
one_truth false false h = refl

one_cap : (a b : Option Cap) → same_cap a b ≡ true → a ≡ b
one_cap None None h = refl
one_cap None (Some b) h = absurd (true≢false (sym h))
one_cap (Some a) None h = absurd (true≢false (sym h))
one_cap (Some a) (Some b) h =
    let u = uid_cmp-IsAntisymmetric a.uid b.uid
    ((Equal-is (uid_cmp a.uid b.uid)).0 (first_so (same_uid a.uid b.uid) (a.rights.bits == b.rights.bits) h)) in
    let r = eqb-true a.rights.bits b.rights.bits (second_so (same_uid a.uid b.uid) (a.rights.bits == b.rights.bits) h) in
    λ i. Some (record { uid = u i; rights = record { bits = r i } })

mutual
  -- values that are the same are one
  pub one_value : (a b : Datum) → same a b ≡ true → a ≡ b
  one_value (number a) (number b) h = ap number ((Decides-int_eq a b).0 h)
  one_value (truth a) (truth b) h = ap truth (one_truth a b h)
  one_value (text a) (text b) h = ap text (one_text a b h)
  one_value (cap a) (cap b) h = ap cap (one_cap a b h)
  one_value (list a) (list b) h = ap list (one_data a b h)
  one_value _ _ h = absurd (true≢false (sym h))

  one_data : (a b : Data) → same_data a b ≡ true → a ≡ b
  one_data no_data no_data h = refl
  one_data (data_and d x) (data_and e y) h =
      λ i. data_and (one_value d e (first_so (same d e) (same_data x y) h) i) (one_data x y (second_so (same d e) (same_data x y) h) i)
  one_data no_data (data_and e y) h = absurd (true≢false (sym h))
  one_data (data_and d x) no_data h = absurd (true≢false (sym h))

-- the comparison of values of the code is that of the meaning
pub compared : (v w : Value) (r : Bool) → IsTrue r ↔ (v ≡ w) → r ≡ same (datum v) (datum w)
compared v w true h = sym (ap (λ u. same (datum v) (datum u)) (sym (h.0 refl)) ∙ itself (datum v))
compared v w false h = by (same (datum v) (datum w)) refl
  where
    by : (s : Bool) → same (datum v) (datum w) ≡ s → false ≡ s
    by true e = absurd (true≢false (sym (h.1 (same_value v w (one_value (datum v) (datum w) e)))))
    by false e = refl
