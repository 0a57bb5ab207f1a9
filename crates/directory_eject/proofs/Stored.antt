-- Stored values: what lists of names that differ say of each, and how a map is filled from them.
use Rattle.std.proofs.Common.{◌≡◌, ◌==◌, ◌+◌, ◌<◌, ◌≤◌, ℕ, zero, suc, Bool, true, false, cond, not, ◌&&◌, ◌||◌, nat_eq, List, []}
use Rattle.std.proofs.Common.{◌∷◌, ◌++◌, length, take, drop, get_or, slice_get, Option, None, Some, refl, sym, ap, ◌∙◌, true≢false}
use Rattle.std.proofs.Common.{eqb-true, arith}
use Rattle.std.specs.Prelude.{Vec}
use Rattle.std.specs.declared.alloc.Global.{Global}
use Rattle.std.specs.Cmp.{first_so, second_so}
use Rattle.std.specs.Cmp.Lexicographic.{nat_list_eq_equiv, pointwise}
use Rattle.std.specs.List.{list_any}
use Rattle.std.specs.Map.{lookup}
use Rattle.std.proofs.lemmas.List.{map-append, take_all}
use Rattle.indexmap.specs.IndexMap.{IndexMap, insert_entry}
use Rattle.indexmap.proofs.CallerLemmas.{insert_entry-new}
use Rattle.capability.specs.declared.Cap.{Cap}
use Rattle.eden_value.specs.Datum.{Datum, Data, number, truth, text, cap, list, no_data, data_and, items_of, data_of}
use Rattle.eden_value.specs.Shape.{Shape, texts, caps, lists, has_shape, have_shape, data_shape}
use Rattle.eden_value.specs.View.{datum, datums}
use Rattle.eden_value.specs.declared.value.Value.{Value}
use Rattle.eden_value.proofs.Laws.{data_of-items_of}
use Rattle.eden_model.specs.Map.{with_item, same_text}
use Rattle.epl_syntax.specs.declared.types.Native.TheVariants as types
use Rattle.epl_syntax.specs.Directory.{values_of, all_differ, are_entries}
use Rattle.epl_syntax.specs.Edentype.{native}
use Rattle.epl_syntax.specs.Kinds.{have_shapes}
use Rattle.epl_syntax.specs.Meaning.{values_from}
use Rattle.epl_syntax.specs.Same.{same}
use Rattle.epl_syntax.specs.Simple.{argument, text_in, cap_in, items_in}
use Rattle.epl_syntax.proofs.SameText.{same_as_pointwise}
use Rattle.directory_eject.specs.View.{DirectoryEntry, names_in, held_in, vars_of}
use Rattle.directory_eject.proofs.Begins.{text_again, cap_again}
use Rattle.directory_eject.proofs.Turns.{named}

not_true : (b : Bool) → not b ≡ true → b ≡ false
not_true true h = absurd (true≢false (sym h))
not_true false h = refl

neither_first : (a b : Bool) → (a || b) ≡ false → a ≡ false
neither_first true b h = absurd (true≢false h)
neither_first false b h = refl

neither_second : (a b : Bool) → (a || b) ≡ false → b ≡ false
neither_second true b h = absurd (true≢false h)
neither_second false b h = h

neither : (a b : Bool) → a ≡ false → b ≡ false → (a || b) ≡ false
neither a b h k = λ i. h i || k i

abbrev has_item : Option Datum → Bool
has_item None = false
has_item (Some e) = true

one_item : (a b : Datum) → Some a ≡ Some b → a ≡ b
one_item a b e = ap (λ o. with_item o (λ d. d) a) e

no_items : (i : ℕ) (d : Datum) → slice_get [] i ≡ Some d → ⊥
no_items i d at = true≢false (sym (ap has_item at))

-- a test that no item passes fails at each place
fails_at : (p : Datum → Bool) (ds : List Datum) (i : ℕ) (d : Datum) → list_any p ds ≡ false → slice_get ds i ≡ Some d → p d ≡ false
fails_at p [] i d h at = absurd (no_items i d at)
fails_at p (e ∷ ds) zero d h at = ap p (sym (one_item e d at)) ∙ neither_first (p e) (list_any p ds) h
fails_at p (e ∷ ds) (suc i) d h at = fails_at p ds i d (neither_second (p e) (list_any p ds) h) at

-- where all values differ, none before a place is the one there
pub apart_before : (ds : List Datum) (i : ℕ) (d : Datum) → all_differ ds ≡ true → slice_get ds i ≡ Some d
    → list_any (λ e. same e d) (take i ds) ≡ false
apart_before [] i d h at = absurd (no_items i d at)
apart_before (e ∷ ds) zero d h at = refl
apart_before (e ∷ ds) (suc i) d h at =
    let first = not_true (list_any (same e) ds) (first_so (not (list_any (same e) ds)) (all_differ ds) h) in
    let rest = second_so (not (list_any (same e) ds)) (all_differ ds) h in
    neither (same e d) (list_any (λ k. same k d) (take i ds)) (fails_at (same e) ds i d first at) (apart_before ds i d rest at)

-- an item of a list of one kind is of the kind
pub kind_at : (ds : List Datum) (s : Shape) (i : ℕ) (d : Datum) → have_shape ds s ≡ true → slice_get ds i ≡ Some d → has_shape d s ≡ true
kind_at [] s i d h at = absurd (no_items i d at)
kind_at (e ∷ ds) s zero d h at = ap (λ k. has_shape k s) (sym (one_item e d at)) ∙ first_so (has_shape e s) (have_shape ds s) h
kind_at (e ∷ ds) s (suc i) d h at = kind_at ds s i d (second_so (has_shape e s) (have_shape ds s) h) at

-- a name that none of the entries has is not in the map
pub not_found : (n : List ℕ) (es : List DirectoryEntry) → list_any (λ e. same e (text n)) (names_in es) ≡ false → lookup (named n) es ≡ None
not_found n [] h = refl
not_found n (e ∷ es) h =
    let apart : named n e.0 ≡ false =
    nat_list_eq_equiv.symm n e.0.items ∙ sym (same_as_pointwise e.0.items n)
    ∙ neither_first (same_text e.0.items n) (list_any (λ k. same k (text n)) (names_in es)) h in
    ap (λ b. cond b (Some e.1) (lookup (named n) es)) apart
    ∙ not_found n es (neither_second (same_text e.0.items n) (list_any (λ k. same k (text n)) (names_in es)) h)

-- ---- lists of values of the code, item by item

any_suc : (p : Datum → Bool) (vs : List Value) (i : ℕ) (v : Value) → i < length vs → v ≡ get_or vs i v
    → list_any p (datums (drop i vs)) ≡ (p (datum v) || list_any p (datums (drop (suc i) vs)))
any_suc p [] i v within is = absurd (omega arith)
any_suc p (w ∷ vs) zero v within is = ap (λ u. p (datum u) || list_any p (datums vs)) (sym is)
any_suc p (w ∷ vs) (suc i) v within is = any_suc p vs i v (omega arith) is

-- what is left of a list before and after an item
pub any_step : (p : Datum → Bool) (vs : List Value) (i : ℕ) (v : Value) → i < length vs → v ≡ get_or vs i v
    → list_any p (datums (drop i vs)) ≡ (p (datum v) || list_any p (datums (drop (i + 1) vs)))
any_step p vs i v within is =
    any_suc p vs i v within is ∙ ap (λ k. p (datum v) || list_any p (datums (drop k vs))) (let next : suc i ≡ i + 1 = omega arith in next)

-- an item of the code's list is the argument at its place
pub argument_seen : (vs : List Value) (i : ℕ) (v : Value) → i < length vs → v ≡ get_or vs i v → argument i (datums vs) ≡ datum v
argument_seen [] i v within is = absurd (omega arith)
argument_seen (w ∷ vs) zero v within is = ap datum (sym is)
argument_seen (w ∷ vs) (suc i) v within is = argument_seen vs i v (omega arith) is

-- and past its end there is none
pub argument_past : (vs : List Value) (i : ℕ) → length vs ≤ i → argument i (datums vs) ≡ cap None
argument_past [] i past = refl
argument_past (w ∷ vs) zero past = absurd (omega arith)
argument_past (w ∷ vs) (suc i) past = argument_past vs i (omega arith)

-- ---- the entries of stored values, one by one

item_there : (ds : List Datum) (i : ℕ) → i < length ds → slice_get ds i ≡ Some (argument i ds)
item_there [] i within = absurd (omega arith)
item_there (d ∷ ds) zero within = refl
item_there (d ∷ ds) (suc i) within = item_there ds i (omega arith)

take_next : (ds : List Datum) (i : ℕ) (d : Datum) → slice_get ds i ≡ Some d → take (suc i) ds ≡ take i ds ++ d ∷ []
take_next [] i d at = absurd (no_items i d at)
take_next (e ∷ ds) zero d at = ap (λ k. k ∷ []) (one_item e d at)
take_next (e ∷ ds) (suc i) d at = ap (λ l. e ∷ l) (take_next ds i d at)

-- whether two names of the map are one
abbrev pub same_name : Vec ℕ Global → Vec ℕ Global → Bool
same_name x y = pointwise nat_eq x.items y.items

-- stored names and capabilities, each of its kind, as many of these as of those, and no name twice
pub record AreStored (names held : List Datum) : Type 0 where
  pub texts : have_shape names texts ≡ true
  pub caps : have_shape held caps ≡ true
  pub as_many : length names ≡ length held
  pub differ : all_differ names ≡ true

-- the map has the first of them, in order
pub record HasFirst (es : List DirectoryEntry) (i : ℕ) (names held : List Datum) : Type 0 where
  pub names_are : names_in es ≡ take i names
  pub held_are : held_in es ≡ take i held

-- one more is put into the map
pub one_more : {S : Type 0} (names held : List Datum) → AreStored names held → (m new : IndexMap (Vec ℕ Global) (Option Cap) S) (i : ℕ)
    → HasFirst m.entries i names held → i < length names → (k : Vec ℕ Global) (c : Option Cap)
    → k.items ≡ text_in (argument i names) → c ≡ cap_in (argument i held) → new.entries ≡ insert_entry same_name m.entries k c
    → HasFirst new.entries (i + 1) names held
one_more names held stored m new i before within k c name_is held_is put =
    let at = item_there names i within in
    let at_held = item_there held i (omega (arith, within, stored.as_many)) in
    let n : text k.items ≡ argument i names =
    ap text name_is ∙ text_again (argument i names) (kind_at names texts i (argument i names) stored.texts at) in
    let h : cap c ≡ argument i held =
    ap cap held_is ∙ cap_again (argument i held) (kind_at held caps i (argument i held) stored.caps at_held) in
    let apart : list_any (λ e. same e (text k.items)) (names_in m.entries) ≡ false =
    (λ j. list_any (λ e. same e (n j)) (before.names_are j)) ∙ apart_before names i (argument i names) stored.differ at in
    let added = put ∙ insert_entry-new same_name m k c (not_found k.items m.entries apart) in
    let next : suc i ≡ i + 1 = omega arith in
    record {
      names_are = ap names_in added ∙ map-append (λ (e : DirectoryEntry). text e.0.items) m.entries ((k, c) ∷ [])
          ∙ (λ j. before.names_are j ++ n j ∷ []) ∙ sym (take_next names i (argument i names) at) ∙ ap (λ l. take l names) next;
      held_are = ap held_in added ∙ map-append (λ (e : DirectoryEntry). cap e.1) m.entries ((k, c) ∷ [])
          ∙ (λ j. before.held_are j ++ h j ∷ []) ∙ sym (take_next held i (argument i held) at_held) ∙ ap (λ l. take l held) next;
    }

shape_items : (ds : Data) (s : Shape) → data_shape ds s ≡ have_shape (items_of ds) s
shape_items no_data s = refl
shape_items (data_and d ds) s = ap (λ b. has_shape d s && b) (shape_items ds s)

-- values of the kinds of the two variables
abbrev pub AreOfKinds : List Datum → Type 0
AreOfKinds ds = have_shapes ds (lists texts ∷ lists caps ∷ []) ≡ true

listed : (d : Datum) (s : Shape) → has_shape d (lists s) ≡ true
    → (d ≡ list (data_of (items_in d))) × (have_shape (items_in d) s ≡ true)
listed (list ds) s h = (ap list (sym (data_of-items_of ds)), sym (shape_items ds s) ∙ h)
listed (number n) s h = absurd (true≢false (sym h))
listed (truth b) s h = absurd (true≢false (sym h))
listed (text t) s h = absurd (true≢false (sym h))
listed (cap c) s h = absurd (true≢false (sym h))

-- what values of these kinds are
pub record AreLists (ds : List Datum) : Type 0 where
  pub texts : have_shape (items_in (argument 0 ds)) texts ≡ true
  pub caps : have_shape (items_in (argument 1 ds)) caps ≡ true
  pub again : values_of (record { names = items_in (argument 0 ds); held = items_in (argument 1 ds) }) ≡ ds
  pub start : ds ≡ values_from (native types.Directory) ds

pub are_lists : (ds : List Datum) → AreOfKinds ds → AreLists ds
are_lists [] h = absurd (true≢false (sym h))
are_lists (d ∷ []) h = absurd (true≢false (sym (second_so (has_shape d (lists texts)) false h)))
are_lists (d ∷ e ∷ []) h =
    let first = listed d texts (first_so (has_shape d (lists texts)) (has_shape e (lists caps) && true) h) in
    let rest = second_so (has_shape d (lists texts)) (has_shape e (lists caps) && true) h in
    let second = listed e caps (first_so (has_shape e (lists caps)) true rest) in
    record {
      texts = first.1;
      caps = second.1;
      again = λ i. sym first.0 i ∷ sym second.0 i ∷ [];
      start = refl;
    }
are_lists (d ∷ e ∷ f ∷ ds) h =
    absurd (true≢false (sym (second_so (has_shape e (lists caps)) false
    (second_so (has_shape d (lists texts)) (has_shape e (lists caps) && false) h))))

-- stored values that meet the condition
pub are_stored : (ds : List Datum) → AreOfKinds ds → are_entries ds ≡ true
    → AreStored (items_in (argument 0 ds)) (items_in (argument 1 ds))
are_stored ds kinds condition =
    let l = are_lists ds kinds in
    let names = items_in (argument 0 ds) in
    let held = items_in (argument 1 ds) in
    record {
      texts = l.texts;
      caps = l.caps;
      as_many = eqb-true (length names) (length held) (first_so (length names == length held) (all_differ names) condition);
      differ = second_so (length names == length held) (all_differ names) condition;
    }

-- the map with all of them stands for the values
pub all_there : (ds : List Datum) → AreOfKinds ds → are_entries ds ≡ true → (es : List DirectoryEntry) (i : ℕ)
    → HasFirst es i (items_in (argument 0 ds)) (items_in (argument 1 ds)) → length (items_in (argument 0 ds)) ≤ i → vars_of es ≡ ds
all_there ds kinds condition es i has end =
    let names = items_in (argument 0 ds) in
    let held = items_in (argument 1 ds) in
    let stored = are_stored ds kinds condition in
    let n = has.names_are ∙ take_all i names end in
    let h = has.held_are ∙ take_all i held (omega (arith, end, stored.as_many)) in
    (λ j. values_of (record { names = n j; held = h j })) ∙ (are_lists ds kinds).again
