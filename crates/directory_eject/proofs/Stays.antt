-- A turn of a directory leaves values that a directory may have.
use Rattle.std.proofs.Common.{◌≡◌, ◌==◌, ◌+◌, ◌<◌, ◌≤◌, ℕ, zero, suc, Bool, true, false, cond, not, ◌&&◌, ◌||◌}
use Rattle.std.proofs.Common.{List, [], ◌∷◌, ◌++◌, length, take, drop, position, Option, None, Some, refl, sym, ap, ◌∙◌, subst}
use Rattle.std.proofs.Common.{true≢false, is_some, lt-ltb, arith}
use Rattle.std.specs.Cmp.{first_so, second_so, nat_eq_equiv}
use Rattle.std.specs.List.{list_any, position_or_len}
use Rattle.capability.specs.declared.Cap.{Cap}
use Rattle.eden_value.specs.Datum.{Datum, text, cap, data_of}
use Rattle.eden_value.specs.Code.{items_of-data_of}
use Rattle.eden_value.specs.Shape.{Shape, texts, caps, has_shape, have_shape, data_shape}
use Rattle.eden_value.specs.declared.value.TheConstants.{LIST_LIMIT}
use Rattle.eden_value.proofs.Laws.{shape-data_of}
use Rattle.eden_model.specs.Map.{with_item}
use Rattle.epl_syntax.specs.declared.effect.Answer.{Answer}
use Rattle.epl_syntax.specs.declared.types.Native.TheVariants as types
use Rattle.epl_syntax.specs.Directory.{entries, values_of, all_differ, place_of, with_entry, without_entry}
use Rattle.epl_syntax.specs.Directory.{changed, changes}
use Rattle.epl_syntax.specs.Natives.{native_turn}
use Rattle.epl_syntax.specs.Same.{same}
use Rattle.epl_syntax.specs.Simple.{argument, items_in, returns_code}
use Rattle.directory_eject.specs.declared.stage.Stage.{Stage}
use Rattle.directory_eject.specs.declared.stage.Stage.TheVariants.{Adds, Looks, Deletes, Tells, Changed}
use Rattle.directory_eject.specs.Kept.{MayStart, TurnsStay, TurnsMayStart}
use Rattle.directory_eject.specs.Stages.{stage_of}
use Rattle.directory_eject.proofs.Compared.{itself, one_value}
use Rattle.directory_eject.proofs.Stored.{AreStored, are_stored}

both : (a b : Bool) → a ≡ true → b ≡ true → (a && b) ≡ true
both a b h k = λ i. h i && k i

neither : (a b : Bool) → a ≡ false → b ≡ false → (a || b) ≡ false
neither a b h k = λ i. h i || k i

is_so : (b : Bool) → not b ≡ true → b ≡ false
is_so true h = absurd (true≢false (sym h))
is_so false h = refl

negated : (b : Bool) → b ≡ false → not b ≡ true
negated b h = ap not h

first_not : (a b : Bool) → (a || b) ≡ false → a ≡ false
first_not true b h = absurd (true≢false h)
first_not false b h = refl

second_not : (a b : Bool) → (a || b) ≡ false → b ≡ false
second_not true b h = absurd (true≢false h)
second_not false b h = h

-- the comparison goes both ways
turned : (d e : Datum) → same d e ≡ false → same e d ≡ false
turned d e h = by (same e d) refl
  where
    by : (r : Bool) → same e d ≡ r → same e d ≡ false
    by true k = absurd (true≢false (sym (ap (λ f. same d f) (one_value e d k) ∙ itself d) ∙ h))
    by false k = k

-- ---- one more at the end
any_end : (p : Datum → Bool) (ds : List Datum) (d : Datum) → list_any p ds ≡ false → p d ≡ false → list_any p (ds ++ d ∷ []) ≡ false
any_end p [] d h k = neither (p d) false k refl
any_end p (e ∷ ds) d h k =
    neither (p e) (list_any p (ds ++ d ∷ [])) (first_not (p e) (list_any p ds) h) (any_end p ds d (second_not (p e) (list_any p ds) h) k)

differ_end : (ds : List Datum) (d : Datum) → all_differ ds ≡ true → list_any (same d) ds ≡ false → all_differ (ds ++ d ∷ []) ≡ true
differ_end [] d h k = refl
differ_end (e ∷ ds) d h k =
    let first = is_so (list_any (same e) ds) (first_so (not (list_any (same e) ds)) (all_differ ds) h) in
    let apart = turned d e (first_not (same d e) (list_any (same d) ds) k) in
    both (not (list_any (same e) (ds ++ d ∷ []))) (all_differ (ds ++ d ∷ []))
    (negated (list_any (same e) (ds ++ d ∷ [])) (any_end (same e) ds d first apart))
    (differ_end ds d (second_so (not (list_any (same e) ds)) (all_differ ds) h) (second_not (same d e) (list_any (same d) ds) k))

shape_end : (ds : List Datum) (d : Datum) (s : Shape) → have_shape ds s ≡ true → has_shape d s ≡ true → have_shape (ds ++ d ∷ []) s ≡ true
shape_end [] d s h k = both (has_shape d s) true k refl
shape_end (e ∷ ds) d s h k =
    both (has_shape e s) (have_shape (ds ++ d ∷ []) s) (first_so (has_shape e s) (have_shape ds s) h)
    (shape_end ds d s (second_so (has_shape e s) (have_shape ds s) h) k)

length_end : (ds : List Datum) (d : Datum) → length (ds ++ d ∷ []) ≡ suc (length ds)
length_end [] d = refl
length_end (e ∷ ds) d = ap suc (length_end ds d)

-- ---- one less
abbrev left_out : ℕ → List Datum → List Datum
left_out i ds = take i ds ++ drop (suc i) ds

any_out : (p : Datum → Bool) (i : ℕ) (ds : List Datum) → list_any p ds ≡ false → list_any p (left_out i ds) ≡ false
any_out p zero [] h = refl
any_out p (suc i) [] h = refl
any_out p zero (d ∷ ds) h = second_not (p d) (list_any p ds) h
any_out p (suc i) (d ∷ ds) h =
    neither (p d) (list_any p (left_out i ds)) (first_not (p d) (list_any p ds) h) (any_out p i ds (second_not (p d) (list_any p ds) h))

differ_out : (i : ℕ) (ds : List Datum) → all_differ ds ≡ true → all_differ (left_out i ds) ≡ true
differ_out zero [] h = refl
differ_out (suc i) [] h = refl
differ_out zero (d ∷ ds) h = second_so (not (list_any (same d) ds)) (all_differ ds) h
differ_out (suc i) (d ∷ ds) h =
    let first = is_so (list_any (same d) ds) (first_so (not (list_any (same d) ds)) (all_differ ds) h) in
    both (not (list_any (same d) (left_out i ds))) (all_differ (left_out i ds))
    (negated (list_any (same d) (left_out i ds)) (any_out (same d) i ds first))
    (differ_out i ds (second_so (not (list_any (same d) ds)) (all_differ ds) h))

shape_out : (i : ℕ) (ds : List Datum) (s : Shape) → have_shape ds s ≡ true → have_shape (left_out i ds) s ≡ true
shape_out zero [] s h = refl
shape_out (suc i) [] s h = refl
shape_out zero (d ∷ ds) s h = second_so (has_shape d s) (have_shape ds s) h
shape_out (suc i) (d ∷ ds) s h =
    both (has_shape d s) (have_shape (left_out i ds) s) (first_so (has_shape d s) (have_shape ds s) h)
    (shape_out i ds s (second_so (has_shape d s) (have_shape ds s) h))

as_many_out : (i : ℕ) (ds es : List Datum) → length ds ≡ length es → length (left_out i ds) ≡ length (left_out i es)
as_many_out zero [] [] h = refl
as_many_out (suc i) [] [] h = refl
as_many_out zero (d ∷ ds) (e ∷ es) h = omega (arith, h)
as_many_out (suc i) (d ∷ ds) (e ∷ es) h =
    let rest : length ds ≡ length es = omega (arith, h) in
    ap suc (as_many_out i ds es rest)
as_many_out i [] (e ∷ es) h = absurd (omega (arith, h))
as_many_out i (d ∷ ds) [] h = absurd (omega (arith, h))

fewer_out : (i : ℕ) (ds : List Datum) → length (left_out i ds) ≤ length ds
fewer_out zero [] = omega arith
fewer_out (suc i) [] = omega arith
fewer_out zero (d ∷ ds) = omega arith
fewer_out (suc i) (d ∷ ds) = omega (arith, fewer_out i ds)

within_by : (p : Datum → Bool) (e : Datum) (es : List Datum) (b : Bool) → p e ≡ b
    → (list_any p es ≡ true → position_or_len p es < length es) → list_any p (e ∷ es) ≡ true → position_or_len p (e ∷ es) < length (e ∷ es)
within_by p e es true q rest k =
    let here : position_or_len p (e ∷ es) ≡ 0 = ap (λ b. cond (not b) (1 + position_or_len p es) 0) q in
    omega (arith, here)
within_by p e es false q rest k =
    let later : position_or_len p (e ∷ es) ≡ 1 + position_or_len p es = ap (λ b. cond (not b) (1 + position_or_len p es) 0) q in
    omega (arith, later, rest (sym (ap (λ b. b || list_any p es) q) ∙ k))

within : (p : Datum → Bool) (es : List Datum) → list_any p es ≡ true → position_or_len p es < length es
within p [] k = absurd (true≢false (sym k))
within p (e ∷ es) k = within_by p e es (p e) refl (within p es) k

-- a value that has no place is none of them
no_place : (p : Datum → Bool) (ds : List Datum) → position p ds ≡ None → list_any p ds ≡ false
no_place p ds h = by (list_any p ds) refl
  where
    by : (r : Bool) → list_any p ds ≡ r → list_any p ds ≡ false
    by true k =
        let found = lt-ltb (position_or_len p ds) (length ds) (within p ds k) in
        absurd (true≢false (sym (ap (λ b. is_some (cond b (Some (position_or_len p ds)) None)) found) ∙ ap is_some h))
    by false k = k

unequal : (a b : ℕ) → (a == b) ≡ false → a ≡ b → ⊥
unequal a b h e = true≢false (sym (ap (λ k. k == b) e ∙ nat_eq_equiv.refl b) ∙ h)

-- ---- the values of a directory

stored_again : (ns hs : List Datum) → AreStored ns hs → MayStart (values_of (record { names = ns; held = hs }))
stored_again ns hs stored =
    let n = items_of-data_of ns in
    let h = items_of-data_of hs in
    let as_many : (length ns == length hs) ≡ true =
    ap (λ k. length ns == k) (sym stored.as_many) ∙ nat_eq_equiv.refl (length ns) in
    record {
      kinds = both (data_shape (data_of ns) texts) (data_shape (data_of hs) caps && true) (shape-data_of ns texts ∙ stored.texts)
          (both (data_shape (data_of hs) caps) true (shape-data_of hs caps ∙ stored.caps) refl);
      condition = (λ i. (length (n i) == length (h i)) && all_differ (n i))
          ∙ both (length ns == length hs) (all_differ ns) as_many stored.differ;
    }

module _ (vars : List Datum) (was : MayStart vars) where
  abbrev ns : List Datum
  ns = items_in (argument 0 vars)

  abbrev hs : List Datum
  hs = items_in (argument 1 vars)

  add_starts : (n : List ℕ) (c : Option Cap) (o : Option ℕ) (b : Bool) → place_of (text n) (entries vars) ≡ o
      → MayStart (with_item o (λ i. (vars, changed, returns_code 1)) (cond b (vars, changed, returns_code 2)
      (changes (with_entry (text n) (cap c) (entries vars))))).0
  add_starts n c (Some i) b p = was
  add_starts n c None true p = was
  add_starts n c None false p =
      let s = are_stored vars was.kinds was.condition in
      let ln = length_end ns (text n) in
      let lh = length_end hs (cap c) in
      stored_again (ns ++ text n ∷ []) (hs ++ cap c ∷ []) (record {
        texts = shape_end ns (text n) texts s.texts refl;
        caps = shape_end hs (cap c) caps s.caps refl;
        as_many = ln ∙ ap suc s.as_many ∙ sym lh;
        differ = differ_end ns (text n) s.differ (no_place (same (text n)) ns p);
      })

  delete_starts : (n : List ℕ) (o : Option ℕ)
      → MayStart (with_item o (λ i. changes (without_entry i (entries vars))) (vars, changed, returns_code 1)).0
  delete_starts n None = was
  delete_starts n (Some i) =
      let s = are_stored vars was.kinds was.condition in
      let next : suc i ≡ i + 1 = omega arith in
      let left = stored_again (left_out i ns) (left_out i hs) (record {
        texts = shape_out i ns texts s.texts;
        caps = shape_out i hs caps s.caps;
        as_many = as_many_out i ns hs s.as_many;
        differ = differ_out i ns s.differ;
      }) in
      subst (λ k. MayStart (values_of (record { names = take i ns ++ drop k ns; held = take i hs ++ drop k hs }))) next left

pub turns_may_start : TurnsMayStart
turns_may_start vars (Adds n c) a was =
    add_starts vars was n c (place_of (text n) (entries vars)) (length (items_in (argument 0 vars)) == LIST_LIMIT) refl
turns_may_start vars (Looks n) a was = was
turns_may_start vars (Deletes n) a was = delete_starts vars was n (place_of (text n) (entries vars))
turns_may_start vars Tells a was = was
turns_may_start vars Changed a was = was

-- ---- and how many names they have

few_made : (ds es : List Datum) → length ds ≤ LIST_LIMIT
    → length (items_in (argument 0 (values_of (record { names = ds; held = es })))) ≤ LIST_LIMIT
few_made ds es few = subst (λ l. length l ≤ LIST_LIMIT) (sym (items_of-data_of ds)) few

module _ (vars : List Datum) (few : length (items_in (argument 0 vars)) ≤ LIST_LIMIT) where
  abbrev names : List Datum
  names = items_in (argument 0 vars)

  abbrev IsFew : List Datum → Type 0
  IsFew ds = length (items_in (argument 0 ds)) ≤ LIST_LIMIT

  add_few : (n : List ℕ) (c : Option Cap) (o : Option ℕ) (b : Bool) → (length names == LIST_LIMIT) ≡ b
      → IsFew (with_item o (λ i. (vars, changed, returns_code 1)) (cond b (vars, changed, returns_code 2)
      (changes (with_entry (text n) (cap c) (entries vars))))).0
  add_few n c (Some i) b q = few
  add_few n c None true q = few
  add_few n c None false q =
      let ln = length_end names (text n) in
      few_made (names ++ text n ∷ []) (items_in (argument 1 vars) ++ cap c ∷ [])
      (omega (arith, ln, few, unequal (length names) LIST_LIMIT q))

  delete_few : (n : List ℕ) (o : Option ℕ)
      → IsFew (with_item o (λ i. changes (without_entry i (entries vars))) (vars, changed, returns_code 1)).0
  delete_few n None = few
  delete_few n (Some i) =
      let next : suc i ≡ i + 1 = omega arith in
      let held = items_in (argument 1 vars) in
      let left = few_made (left_out i names) (left_out i held) (omega (arith, fewer_out i names, few)) in
      subst (λ k. IsFew (values_of (record { names = take i names ++ drop k names; held = take i held ++ drop k held }))) next left

turns_few : (vars : List Datum) (s : Stage) (a : Answer) → length (items_in (argument 0 vars)) ≤ LIST_LIMIT
    → length (items_in (argument 0 (native_turn types.Directory vars (stage_of s) a).0)) ≤ LIST_LIMIT
turns_few vars (Adds n c) a few =
    add_few vars few n c (place_of (text n) (entries vars)) (length (items_in (argument 0 vars)) == LIST_LIMIT) refl
turns_few vars (Looks n) a few = few
turns_few vars (Deletes n) a few = delete_few vars few n (place_of (text n) (entries vars))
turns_few vars Tells a few = few
turns_few vars Changed a few = few

pub turns_stay : TurnsStay
turns_stay vars s a was = record { starts = turns_may_start vars s a was.starts; few = turns_few vars s a was.few }
