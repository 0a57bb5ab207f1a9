-- A turn of a native type leaves values within the limits.
use Rattle.std.proofs.Common.{◌≡◌, ◌≢◌, ◌≤◌, ◌<◌, ◌^◌, ℕ, zero, suc, ◌+◌, ◌-◌, ◌==◌, ℤ, pos, negsuc, Bool, true, false, not, cond, ◌&&◌}
use Rattle.std.proofs.Common.{◌||◌, List, [], ◌∷◌, ◌++◌, take, drop, length, length-append, slice_get, Option, None, Some, is_some, codes}
use Rattle.std.proofs.Common.{refl, ap, sym, ◌∙◌, subst, arith}
use Rattle.std.specs.Prelude.{IfSome, int_le, ◌+ℤ◌, ◌-ℤ◌, FitsSigned}
use Rattle.std.specs.Fmt.{signed_decimal}
use Rattle.std.specs.Int.{w64}
use Rattle.std.specs.Ordering.{int_eq}
use Rattle.std.proofs.lemmas.Bool.{leb-true, le-leb}
use Rattle.std.proofs.lemmas.List.{length-take, length-drop, length-take-le}
use Rattle.capability.specs.declared.Cap.{Cap}
use Rattle.eden_value.specs.Code.{items_of-data_of}
use Rattle.eden_value.specs.Datum.{Datum, number, truth, text, cap, list, items_of, data_of}
use Rattle.eden_value.specs.Limits.{IsText, depth_of}
use Rattle.eden_value.specs.declared.status.Status.TheVariants as status
use Rattle.eden_value.specs.declared.value.TheConstants.{TEXT_LIMIT, LIST_LIMIT, DEPTH_LIMIT}
use Rattle.eden_model.specs.Map.{with_item, is_none}
use Rattle.epl_syntax.specs.Cell as cell
use Rattle.epl_syntax.specs.Directory as directory
use Rattle.epl_syntax.specs.Edentype.{native}
use Rattle.epl_syntax.specs.Filters as filters
use Rattle.epl_syntax.specs.Lines as lines
use Rattle.epl_syntax.specs.Meaning.{of_native, turned_as}
use Rattle.epl_syntax.specs.Natives.{Stage, in_cell, in_directory, in_lines, in_filter, in_sink, rule_of, native_turn}
use Rattle.epl_syntax.specs.Operators.{greatest}
use Rattle.epl_syntax.specs.Simple.{argument, number_in, text_in, cap_in, items_in, returns_code, is_fine}
use Rattle.epl_syntax.specs.Sink as sink
use Rattle.epl_syntax.specs.Streams.{item_code, end_code, out_of_reach, trouble, returns_item, returns_none, asks_for, an_item, the_end}
use Rattle.epl_syntax.specs.Streams.{nothing, came}
use Rattle.epl_syntax.specs.Streams as streams
use Rattle.epl_syntax.specs.declared.effect.Answer.{Answer}
use Rattle.epl_syntax.specs.declared.effect.Answer.TheVariants.{Code, Reply}
use Rattle.epl_syntax.specs.declared.effect.Effect.{Effect}
use Rattle.epl_syntax.specs.declared.types.Native.{Native}
use Rattle.epl_syntax.specs.declared.types.Native.TheVariants as native_type
use Rattle.value_laws.specs.Limited.{IsLimited, AreLimited, CellFits, DirectoryFits, LinesFit, FilterFits, SinkFits, StageFits, CountsFit}
use Rattle.value_laws.specs.Limited.{VarsFit, FilterHasRoom, SinkHasRoom, StageHasRoom, AnswerFits, EffectFits, goes_on, IsLeftLimited}
use Rattle.value_laws.proofs.Operands.{decimal_text}
use Rattle.value_laws.proofs.Steps.{code_limited}
use Rattle.value_laws.proofs.Values.{append_limited, take_limited, drop_limited, item_limited, MakeList, make_list, made_list, depth-append}
use Rattle.value_laws.proofs.Values.{depth-take, depth-drop, few-without, append_printable, take_printable, either, either_by, small_fits}

pub argument_limited : (i : ℕ) (ds : List Datum) → AreLimited ds → IsLimited (argument i ds)
argument_limited i ds h = go (slice_get ds i) (item_limited ds i h)
  where
    go : (o : Option Datum) → IfSome o IsLimited → IsLimited (with_item o (λ d. d) (cap None))
    go None k = (tt, tt)
    go (Some d) k = k

no_items : MakeList []
no_items = (tt, omega arith, omega arith)

pub items_in_limited : (d : Datum) → IsLimited d → MakeList (items_in d)
items_in_limited (list ds) h = made_list ds h
items_in_limited (number n) h = no_items
items_in_limited (truth b) h = no_items
items_in_limited (text t) h = no_items
items_in_limited (cap c) h = no_items

pub cap_in_limited : (d : Datum) → IsLimited d → IsLimited (cap (cap_in d))
cap_in_limited (cap c) h = h
cap_in_limited _ h = (tt, tt)

pub empty_text : IsText []
empty_text = record { printable = refl; short = omega arith }

pub text_in_limited : (d : Datum) → IsLimited d → IsText (text_in d)
text_in_limited (text t) h = h.0
text_in_limited (number n) h = empty_text
text_in_limited (truth b) h = empty_text
text_in_limited (list ds) h = empty_text
text_in_limited (cap c) h = empty_text

zero_fits : FitsSigned w64 (pos 0)
zero_fits = small_fits 0 (omega arith)

number_in_limited : (d : Datum) → IsLimited d → FitsSigned w64 (number_in d)
number_in_limited (number n) h = h.1
number_in_limited (truth b) h = zero_fits
number_in_limited (text t) h = zero_fits
number_in_limited (list ds) h = zero_fits
number_in_limited (cap c) h = zero_fits

-- a small number
pub counted : (n : ℕ) → n < 2 ^ 32 → IsLimited (number (pos n))
counted n h = (tt, small_fits n h)

one_code : (n : ℕ) → n < 2 ^ 32 → EffectFits (returns_code n)
one_code n h = (counted n h, tt)

no_item : (n : ℕ) → n < 2 ^ 32 → EffectFits (returns_none n)
no_item n h = (counted n h, ((empty_text, tt), tt))

an_item_fits : (d : Datum) → IsLimited d → EffectFits (returns_item d)
an_item_fits d h = (counted 0 (omega arith), (h, tt))

with_limited : {X : Type 0} {M : Type 0} (P : X → Type 0) (Q : M → Type 0) (o : Option X) (f : X → M) (other : M) → IfSome o P
    → ((x : X) → P x → Q (f x)) → Q other → Q (with_item o f other)
with_limited P Q None f other h k x = x
with_limited P Q (Some y) f other h k x = k y h

any : {X : Type 0} (o : Option X) → IfSome o (λ x. Unit {0})
any None = tt
any (Some x) = tt

not_limit : (n : ℕ) → (n == LIST_LIMIT) ≡ false → n ≢ LIST_LIMIT
not_limit n h e = let bad : (n == LIST_LIMIT) ≡ true = ap (λ m. m == LIST_LIMIT) e in absurd (let x : true ≡ false = sym bad ∙ h in cc x)

-- 1. Cell

code_of_limited : (a : Answer) → AreLimited (cell.code_of a)
code_of_limited (Code s) = (code_limited s, tt)
code_of_limited _ = tt

record InCell (t : List Datum × cell.Stage × Effect) : Type 0 where
  vars : AreLimited t.0
  rest : CellFits t.1
  effect : EffectFits t.2

cell_limited : (vars : List Datum) (stage : cell.Stage) (a : Answer) → AreLimited vars → CellFits stage
    → InCell (cell.cell_turn vars stage a)
cell_limited vars (cell.sets n) a h k = record { vars = ((tt, k), tt); rest = k; effect = tt }
cell_limited vars cell.gets a h k = record { vars = h; rest = tt; effect = h }
cell_limited vars cell.saves a h k = record { vars = h; rest = tt; effect = tt }
cell_limited vars cell.saved a h k = record { vars = h; rest = tt; effect = code_of_limited a }
cell_limited vars cell.sleeps a h k = record { vars = h; rest = tt; effect = tt }
cell_limited vars cell.kills a h k = record { vars = h; rest = tt; effect = tt }
cell_limited vars cell.killed a h k = record { vars = h; rest = tt; effect = code_of_limited a }

-- 2. Directory

abbrev pub AreEntries : List Datum → Type 0
AreEntries vars = length (directory.entries vars).names ≡ length (directory.entries vars).held

record InDirectory (t : List Datum × directory.Stage × Effect) : Type 0 where
  vars : AreLimited t.0
  fits : AreEntries t.0
  rest : DirectoryFits t.1
  effect : EffectFits t.2

back : (ds : List Datum) → length (items_of (data_of ds)) ≡ length ds
back ds = ap length (items_of-data_of ds)

changes_limited : (d : directory.Entries) → MakeList d.names → MakeList d.held → length d.names ≡ length d.held
    → InDirectory (directory.changes d)
changes_limited d h k same = record {
  vars = (make_list d.names h, (make_list d.held k, tt));
  fits = back d.names ∙ same ∙ sym (back d.held);
  rest = tt;
  effect = tt;
}

with_one : (ds : List Datum) (d : Datum) → MakeList ds → IsLimited d → depth_of (d ∷ []) < DEPTH_LIMIT → length ds ≢ LIST_LIMIT
    → MakeList (ds ++ d ∷ [])
with_one ds d h k flat room = (
  append_limited ds (d ∷ []) h.0 (k, tt),
  omega (arith, length-append ds (d ∷ []), h.1, room),
  depth-append ds (d ∷ []) h.2 flat,
)

one_less : (i : ℕ) (ds : List Datum) → MakeList ds → MakeList (directory.without i ds)
one_less i ds h = (
  append_limited (take i ds) (drop (i + 1) ds) (take_limited i ds h.0) (drop_limited (i + 1) ds h.0),
  omega (arith, few-without i ds, h.1),
  depth-append (take i ds) (drop (i + 1) ds) (depth-take i ds h.2) (depth-drop (i + 1) ds h.2),
)

same_less : (i : ℕ) (xs ys : List Datum) → length xs ≡ length ys → length (directory.without i xs) ≡ length (directory.without i ys)
same_less i xs ys same = omega (
  arith,
  same,
  length-append (take i xs) (drop (i + 1) xs),
  length-append (take i ys) (drop (i + 1) ys),
  length-take i xs,
  length-take i ys,
  length-drop (i + 1) xs,
  length-drop (i + 1) ys,
)

directory_limited : (vars : List Datum) (stage : directory.Stage) (a : Answer) → AreLimited vars → AreEntries vars
    → DirectoryFits stage → InDirectory (directory.directory_turn vars stage a)
directory_limited vars stage a h same k = go stage k
  where
    d : directory.Entries
    d = directory.entries vars

    names : MakeList d.names
    names = items_in_limited (argument 0 vars) (argument_limited 0 vars h)

    its : MakeList d.held
    its = items_in_limited (argument 1 vars) (argument_limited 1 vars h)

    stays : (e : Effect) → EffectFits e → InDirectory (vars, directory.changed, e)
    stays e x = record { vars = h; fits = same; rest = tt; effect = x }

    go : (stage : directory.Stage) → DirectoryFits stage → InDirectory (directory.directory_turn vars stage a)
    go (directory.adds name it) k =
        with_limited (λ i. Unit {0}) InDirectory (directory.place_of (text name) d) (λ i. (vars, directory.changed, returns_code 1))
        (cond (length d.names == LIST_LIMIT) (vars, directory.changed, returns_code 2)
        (directory.changes (directory.with_entry (text name) (cap it) d)))
        (any (directory.place_of (text name) d))
        (λ i x. stays (returns_code 1) (one_code 1 (omega arith)))
        (either_by InDirectory (length d.names == LIST_LIMIT) (vars, directory.changed, returns_code 2)
        (directory.changes (directory.with_entry (text name) (cap it) d)) (λ e. stays (returns_code 2) (one_code 2 (omega arith)))
        (λ e. changes_limited (directory.with_entry (text name) (cap it) d)
        (with_one d.names (text name) names (k.0, tt) (omega arith) (not_limit (length d.names) e))
        (with_one d.held (cap it) its k.1 (omega arith) (λ full. not_limit (length d.names) e (same ∙ full)))
        (length-append d.names (text name ∷ []) ∙ ap (λ n. n + 1) same ∙ sym (length-append d.held (cap it ∷ [])))))
    go (directory.looks name) k = stays _
        (with_limited (λ i. Unit {0}) AreLimited (directory.place_of (text name) d)
        (λ i. number (pos 0) ∷ argument i d.held ∷ []) (number (pos 1) ∷ cap None ∷ []) (any (directory.place_of (text name) d))
        (λ i x. (counted 0 (omega arith), (argument_limited i d.held its.0, tt))) (counted 1 (omega arith), ((tt, tt), tt)))
    go (directory.deletes name) k =
        with_limited (λ i. Unit {0}) InDirectory (directory.place_of (text name) d) (λ i. directory.changes (directory.without_entry i d))
        (vars, directory.changed, returns_code 1) (any (directory.place_of (text name) d))
        (λ i x. changes_limited (directory.without_entry i d) (one_less i d.names names) (one_less i d.held its)
        (same_less i d.names d.held same))
        (stays (returns_code 1) (one_code 1 (omega arith)))
    go directory.tells k = stays _ (argument_limited 0 vars h, tt)
    go directory.changed k = stays _ (one_code (cond (is_fine a) 0 3)
        (either (λ n. n < 2 ^ 32) (is_fine a) 0 3 (omega arith) (omega arith)))

-- 3. Lines

record InLines (t : List Datum × lines.Stage × Effect) : Type 0 where
  vars : AreLimited t.0
  rest : LinesFit t.1
  effect : EffectFits t.2

source_values : (s : lines.Source) → MakeList s.items → AreLimited (lines.values_of s)
source_values s h = ((tt, tt), (make_list s.items h, ((tt, tt), tt)))

line_at_limited : (items : List Datum) (p : ℤ) → AreLimited items → EffectFits (lines.item_at items p)
line_at_limited items (pos i) h =
    with_limited IsLimited EffectFits (slice_get items i) returns_item
    (returns_none (cond (i == length items) end_code out_of_reach)) (item_limited items i h) (λ d k. an_item_fits d k)
    (no_item (cond (i == length items) end_code out_of_reach)
    (either (λ n. n < 2 ^ 32) (i == length items) end_code out_of_reach (omega arith) (omega arith)))
line_at_limited items (negsuc i) h = no_item out_of_reach (omega arith)

lines_limited : (vars : List Datum) (stage : lines.Stage) (a : Answer) → AreLimited vars → LinesFit stage
    → InLines (lines.lines_turn vars stage a)
lines_limited vars stage a h k = go stage k
  where
    s : lines.Source
    s = lines.source vars

    its : MakeList s.items
    its = items_in_limited (argument 1 vars) (argument_limited 1 vars h)

    stays : (e : Effect) → EffectFits e → InLines (vars, lines.fill_saved, e)
    stays e x = record { vars = h; rest = tt; effect = x }

    keeps : (x : lines.Source) (stage : lines.Stage) (e : Effect) → MakeList x.items → LinesFit stage → EffectFits e
        → InLines (lines.values_of x, stage, e)
    keeps x stage e i f g = record { vars = source_values x i; rest = f; effect = g }

    filling : (items : List Datum) → IsLimited (list (data_of items)) → MakeList items
    filling items k = subst MakeList (items_of-data_of items) (made_list (data_of items) k)

    go : (stage : lines.Stage) → LinesFit stage → InLines (lines.lines_turn vars stage a)
    go (lines.fills items) k = either InLines s.filled (vars, lines.fill_saved, returns_code 1)
        (lines.saves (record s { filled = true; items = items }) lines.fill_saved) (stays _ (one_code 1 (omega arith)))
        (keeps (record s { filled = true; items = items; saved = false }) lines.fill_saved _ (filling items k) tt tt)
    go lines.fill_saved k = either InLines (is_fine a) (lines.values_of (record s { saved = true }), lines.fill_saved, returns_code 0)
        (vars, lines.fill_saved, returns_code trouble)
        (keeps (record s { saved = true }) lines.fill_saved _ its tt (one_code 0 (omega arith)))
        (stays _ (one_code trouble (omega arith)))
    go (lines.transfers p) k = either InLines s.filled
        (cond s.saved (vars, lines.fill_saved, lines.item_at s.items p) (lines.saves s (lines.transfer_saved p)))
        (vars, lines.fill_saved, returns_none trouble)
        (either InLines s.saved (vars, lines.fill_saved, lines.item_at s.items p) (lines.saves s (lines.transfer_saved p))
        (stays _ (line_at_limited s.items p its.0)) (keeps (record s { saved = false }) (lines.transfer_saved p) _ its tt tt))
        (stays _ (no_item trouble (omega arith)))
    go (lines.transfer_saved p) k = either InLines (is_fine a)
        (lines.values_of (record s { saved = true }), lines.fill_saved, lines.item_at s.items p)
        (vars, lines.fill_saved, returns_none trouble)
        (keeps (record s { saved = true }) lines.fill_saved _ its tt (line_at_limited s.items p its.0))
        (stays _ (no_item trouble (omega arith)))

-- 4. The numbers of a filter

neg_up : (n : ℕ) → negsuc (suc n) +ℤ pos 1 ≡ negsuc n
neg_up n = ap (λ b. cond b (negsuc (suc (suc n) - 2)) (pos (1 - suc (suc n)))) (le-leb 2 (suc (suc n)) (omega arith))
    ∙ ap negsuc (omega arith)

up_fits : (n : ℤ) → FitsSigned w64 n → n ≢ greatest → FitsSigned w64 (n +ℤ pos 1)
up_fits (pos n) h room = let small : n < 2 ^ 63 = h.sfits in let not_last : n ≢ 0x7FFF_FFFF_FFFF_FFFF = (λ e. room (ap pos e)) in
    record { sfits = omega (arith, small, not_last) }
up_fits (negsuc zero) h room = zero_fits
up_fits (negsuc (suc n)) h room = let small : suc n < 2 ^ 63 = h.sfits in
    subst (λ x. FitsSigned w64 x) (sym (neg_up n)) (record { sfits = omega (arith, small) })

less_fits : (m n : ℤ) → FitsSigned w64 m → FitsSigned w64 n → int_le m n ≡ true → n ≢ greatest → FitsSigned w64 (m +ℤ pos 1)
less_fits (pos m) (pos n) f g h room = let small : n < 2 ^ 63 = g.sfits in
    let not_last : n ≢ 0x7FFF_FFFF_FFFF_FFFF = (λ e. room (ap pos e)) in
    record { sfits = omega (arith, small, not_last, leb-true m n h) }
less_fits (pos m) (negsuc n) f g h room = absurd (let x : false ≡ true = h in cc x)
less_fits (negsuc zero) n f g h room = zero_fits
less_fits (negsuc (suc m)) n f g h room = let small : suc m < 2 ^ 63 = f.sfits in
    subst (λ x. FitsSigned w64 x) (sym (neg_up m)) (record { sfits = omega (arith, small) })

up_both : (m n : ℤ) → int_le m n ≡ true → int_le (m +ℤ pos 1) (n +ℤ pos 1) ≡ true
up_both (pos m) (pos n) h = le-leb (m + 1) (n + 1) (omega (arith, leb-true m n h))
up_both (pos m) (negsuc n) h = absurd (let x : false ≡ true = h in cc x)
up_both (negsuc zero) (pos n) h = le-leb 0 (n + 1) (omega arith)
up_both (negsuc (suc m)) (pos n) h = subst (λ x. int_le x (pos (n + 1)) ≡ true) (sym (neg_up m)) refl
up_both (negsuc zero) (negsuc zero) h = refl
up_both (negsuc zero) (negsuc (suc n)) h = let le : suc n ≤ 0 = leb-true (suc n) 0 h in absurd (omega (arith, le))
up_both (negsuc (suc m)) (negsuc zero) h = subst (λ x. int_le x (pos 0) ≡ true) (sym (neg_up m)) refl
up_both (negsuc (suc m)) (negsuc (suc n)) h = subst (λ x. int_le x (negsuc (suc n) +ℤ pos 1) ≡ true) (sym (neg_up m))
    (subst (λ x. int_le (negsuc m) x ≡ true) (sym (neg_up n)) (le-leb n m (omega (arith, leb-true (suc n) (suc m) h))))

up_one : (m n : ℤ) → int_le m n ≡ true → int_le m (n +ℤ pos 1) ≡ true
up_one (pos m) (pos n) h = le-leb m (n + 1) (omega (arith, leb-true m n h))
up_one (pos m) (negsuc n) h = absurd (let x : false ≡ true = h in cc x)
up_one (negsuc m) (pos n) h = refl
up_one (negsuc m) (negsuc zero) h = refl
up_one (negsuc m) (negsuc (suc n)) h = subst (λ x. int_le (negsuc m) x ≡ true) (sym (neg_up n))
    (le-leb n m (omega (arith, leb-true (suc n) m h)))

not_greatest : (n : ℤ) → filters.is_spent n ≡ false → n ≢ greatest
not_greatest n h e = let same : filters.is_spent n ≡ filters.is_spent greatest = ap (λ m. filters.is_spent m) e in
    absurd (let x : true ≡ false = sym same ∙ h in cc x)

-- 5. The rules

filter_of : (src : Option Cap) (arg : List Datum) (got made : ℤ) (last : Datum) (saved : Bool) → filters.Filter
filter_of src arg got made last saved = record { src = src; arg = arg; got = got; made = made; last = last; saved = saved }

-- what a filter holds is read back from the values of its variables
record ReadsBack (r : filters.Rule) (f : filters.Filter) : Type 0 where
  got : (filters.filter r (filters.values_of f)).got ≡ f.got
  made : (filters.filter r (filters.values_of f)).made ≡ f.made

record RuleLaw (r : filters.Rule) : Type 0 where
  reads : (f : filters.Filter) → length f.arg ≡ length r.arg → ReadsBack r f
  becomes : (f : filters.Filter) (item : List ℕ) → IsText item → FitsSigned w64 (f.made +ℤ pos 1) → IsText (r.becomes f item)

one_value : (src : Option Cap) (arg : List Datum) (got made : ℤ) (last : Datum) (saved : Bool) → length arg ≡ 1
    → (number_in (argument 2 (cap src ∷ (arg ++ (number got ∷ number made ∷ last ∷ truth saved ∷ [])))) ≡ got)
    × (number_in (argument 3 (cap src ∷ (arg ++ (number got ∷ number made ∷ last ∷ truth saved ∷ [])))) ≡ made)
one_value src [] got made last saved h = absurd (omega (arith, h))
one_value src (d ∷ []) got made last saved h = (refl, refl)
one_value src (d ∷ e ∷ ds) got made last saved h = absurd (omega (arith, h))

no_value : (src : Option Cap) (arg : List Datum) (got made : ℤ) (last : Datum) (saved : Bool) → length arg ≡ 0
    → (number_in (argument 1 (cap src ∷ (arg ++ (number got ∷ number made ∷ last ∷ truth saved ∷ [])))) ≡ got)
    × (number_in (argument 2 (cap src ∷ (arg ++ (number got ∷ number made ∷ last ∷ truth saved ∷ [])))) ≡ made)
no_value src [] got made last saved h = (refl, refl)
no_value src (d ∷ ds) got made last saved h = absurd (omega (arith, h))

take_law : RuleLaw filters.take_rule
take_law = record {
  reads = λ f h. let x = one_value f.src f.arg f.got f.made f.last f.saved h in record { got = x.0; made = x.1 };
  becomes = λ f item h k. h;
}

skip_law : RuleLaw filters.skip_rule
skip_law = record {
  reads = λ f h. let x = one_value f.src f.arg f.got f.made f.last f.saved h in record { got = x.0; made = x.1 };
  becomes = λ f item h k. h;
}

only_law : RuleLaw filters.only_rule
only_law = record {
  reads = λ f h. let x = one_value f.src f.arg f.got f.made f.last f.saved h in record { got = x.0; made = x.1 };
  becomes = λ f item h k. h;
}

colon : IsText (codes ": ")
colon = record { printable = refl; short = omega arith }

numbered_text : (n : ℤ) (item : List ℕ) → IsText item → FitsSigned w64 n → IsText (filters.numbered n item)
numbered_text n item h k = record {
  printable = take_printable TEXT_LIMIT (signed_decimal n ++ (codes ": " ++ item))
      (append_printable (signed_decimal n) (codes ": " ++ item) (decimal_text n k).printable
      (append_printable (codes ": ") item colon.printable h.printable));
  short = omega (arith, length-take TEXT_LIMIT (signed_decimal n ++ (codes ": " ++ item)));
}

number_law : RuleLaw filters.number_rule
number_law = record {
  reads = λ f h. let x = no_value f.src f.arg f.got f.made f.last f.saved h in record { got = x.0; made = x.1 };
  becomes = λ f item h k. numbered_text (f.made +ℤ pos 1) item h k;
}

-- 6. What the stage before answered

abbrev CameFits : streams.Came → Type 0
CameFits (an_item item) = IsText item
CameFits _ = Unit {0}

came_fits : (a : Answer) → AnswerFits a → CameFits (came a)
came_fits (Reply status.Ok (number (pos zero) ∷ text t ∷ [])) h = h.1.0.0
came_fits (Reply status.Ok (number (pos (suc zero)) ∷ text t ∷ [])) h = tt
came_fits _ h = tt

-- 7. How many values

count_from : (n : ℕ) (vars : List Datum) → length vars ≡ n + 5 → length (take n (drop 1 vars)) ≡ n
count_from n [] h = absurd (omega (arith, h))
count_from n (d ∷ ds) h = length-take-le n ds (omega (arith, h))

-- 8. The filters

record InFilter (r : filters.Rule) (t : filters.Moved) : Type 0 where
  vars : AreLimited t.0
  fits : CountsFit r t.0
  rest : FilterFits (length r.arg) t.1
  room : goes_on t.2 ≡ true → FilterHasRoom r t.0 t.1
  effect : EffectFits t.2

record FilterLimited (r : filters.Rule) (f : filters.Filter) : Type 0 where
  src : IsLimited (cap f.src)
  arg : AreLimited f.arg
  count : length f.arg ≡ length r.arg
  got : FitsSigned w64 f.got
  made : FitsSigned w64 f.made
  counts : int_le f.made f.got ≡ true
  last : IsLimited f.last

module _ (r : filters.Rule) (law : RuleLaw r) where
  filter_values : (f : filters.Filter) → FilterLimited r f → AreLimited (filters.values_of f)
  filter_values f h = (
    h.src,
    append_limited f.arg (number f.got ∷ number f.made ∷ f.last ∷ truth f.saved ∷ []) h.arg
        ((tt, h.got), ((tt, h.made), (h.last, ((tt, tt), tt)))),
  )

  filter_counts : (f : filters.Filter) → FilterLimited r f → CountsFit r (filters.values_of f)
  filter_counts f h = let back = law.reads f h.count in record {
    count = omega (arith, length-append f.arg (number f.got ∷ number f.made ∷ f.last ∷ truth f.saved ∷ []), h.count);
    counts = ap (λ m. int_le m (filters.filter r (filters.values_of f)).got) back.made ∙ ap (λ n. int_le f.made n) back.got ∙ h.counts;
  }

  answers_limited : (f : filters.Filter) (e : Effect) → FilterLimited r f → EffectFits e → goes_on e ≡ false
      → InFilter r (filters.answers f e)
  answers_limited f e h k ends = record {
    vars = filter_values f h;
    fits = filter_counts f h;
    rest = tt;
    room = λ on. absurd (let x : true ≡ false = sym on ∙ ends in cc x);
    effect = k;
  }

  saved_limited : (f : filters.Filter) (b : Bool) → FilterLimited r f → FilterLimited r (record f { saved = b })
  saved_limited f b h = record { src = h.src; arg = h.arg; count = h.count; got = h.got; made = h.made; counts = h.counts; last = h.last }

  filter_saves : (f : filters.Filter) (s : filters.Stage) → FilterLimited r f → FilterFits (length r.arg) s
      → FilterHasRoom r (filters.values_of (record f { saved = false })) s → InFilter r (filters.saves f s)
  filter_saves f s h k room = record {
    vars = filter_values (record f { saved = false }) (saved_limited f false h);
    fits = filter_counts (record f { saved = false }) (saved_limited f false h);
    rest = k;
    room = λ on. room;
    effect = tt;
  }

  asks_limited : (f : filters.Filter) → FilterLimited r f → InFilter r (filters.asks f)
  asks_limited f h = either_by (InFilter r) (filters.is_spent f.got) (filters.answers f (returns_none trouble))
      (with_item f.src (λ c. (filters.values_of f, filters.asked, asks_for c f.got)) (filters.answers f (returns_none trouble)))
      (λ e. answers_limited f (returns_none trouble) h (no_item trouble (omega arith)) refl)
      (λ e. go e f.src h.src)
    where
      go : filters.is_spent f.got ≡ false → (o : Option Cap) → IsLimited (cap o) → InFilter r
          (with_item o (λ c. (filters.values_of f, filters.asked, asks_for c f.got)) (filters.answers f (returns_none trouble)))
      go e None k = answers_limited f (returns_none trouble) h (no_item trouble (omega arith)) refl
      go e (Some c) k = record {
        vars = filter_values f h;
        fits = filter_counts f h;
        rest = tt;
        room = λ on same. not_greatest f.got e (sym (law.reads f h.count).got ∙ same);
        effect = (k, ((tt, h.got), tt));
      }

  last_limited : (f : filters.Filter) → FilterLimited r f → InFilter r (filters.answers f (returns_item f.last))
  last_limited f h = answers_limited f (returns_item f.last) h (an_item_fits f.last h.last) refl

  none_limited : (f : filters.Filter) (n : ℕ) → n < 2 ^ 32 → FilterLimited r f → InFilter r (filters.answers f (returns_none n))
  none_limited f n small h = answers_limited f (returns_none n) h (no_item n small) refl

  gives_limited : (f : filters.Filter) (p : ℤ) → FilterLimited r f → InFilter r (filters.gives r f p)
  gives_limited f p h =
      either (InFilter r) (int_le (pos 1) f.made && int_eq p (f.made -ℤ pos 1)) (filters.answers f (returns_item f.last))
      (cond (not (int_eq p f.made)) (filters.answers f (returns_none out_of_reach))
      (cond (r.is_over f) (filters.answers f (returns_none end_code)) (filters.asks f)))
      (last_limited f h)
      (either (InFilter r) (not (int_eq p f.made)) (filters.answers f (returns_none out_of_reach))
      (cond (r.is_over f) (filters.answers f (returns_none end_code)) (filters.asks f))
      (none_limited f out_of_reach (omega arith) h)
      (either (InFilter r) (r.is_over f) (filters.answers f (returns_none end_code)) (filters.asks f)
      (none_limited f end_code (omega arith) h) (asks_limited f h)))

  saved_so_limited : (f : filters.Filter) (a : Answer) (otherwise : Effect) (go : filters.Filter → filters.Moved)
      → FilterLimited r f → EffectFits otherwise → goes_on otherwise ≡ false
      → ((g : filters.Filter) → FilterLimited r g → InFilter r (go g)) → InFilter r (filters.saved_so f a otherwise go)
  saved_so_limited f a otherwise go h k ends x =
      either (InFilter r) (is_fine a) (go (record f { saved = true })) (filters.answers f otherwise)
      (x (record f { saved = true }) (saved_limited f true h)) (answers_limited f otherwise h k ends)

  takes_limited : (f : filters.Filter) (item : List ℕ) → FilterLimited r f → f.got ≢ greatest → IsText item
      → InFilter r (filters.takes r f item)
  takes_limited f item h room k =
      let more : FitsSigned w64 (f.made +ℤ pos 1) = less_fits f.made f.got h.made h.got h.counts room in
      either (InFilter r) (filters.is_spent f.got || filters.is_spent f.made) (filters.answers f (returns_none trouble))
      (cond (r.passes f item) (filters.saves (filters.handed_on r item f) (filters.item_saved true))
      (filters.saves (filters.passed_over f) (filters.item_saved false)))
      (none_limited f trouble (omega arith) h)
      (either (InFilter r) (r.passes f item) (filters.saves (filters.handed_on r item f) (filters.item_saved true))
      (filters.saves (filters.passed_over f) (filters.item_saved false))
      (filter_saves (filters.handed_on r item f) (filters.item_saved true) (record {
        src = h.src;
        arg = h.arg;
        count = h.count;
        got = up_fits f.got h.got room;
        made = more;
        counts = up_both f.made f.got h.counts;
        last = (law.becomes f item k more, tt);
      }) tt tt)
      (filter_saves (filters.passed_over f) (filters.item_saved false) (record {
        src = h.src;
        arg = h.arg;
        count = h.count;
        got = up_fits f.got h.got room;
        made = h.made;
        counts = up_one f.made f.got h.counts;
        last = h.last;
      }) tt tt))

  after_limited : (f : filters.Filter) (c : streams.Came) → FilterLimited r f → f.got ≢ greatest → CameFits c
      → InFilter r (filters.after_asking r f c)
  after_limited f (an_item item) h room k = takes_limited f item h room k
  after_limited f the_end h room k = none_limited f end_code (omega arith) h
  after_limited f nothing h room k = none_limited f trouble (omega arith) h

  filter_limited : (vars : List Datum) (stage : filters.Stage) (a : Answer) → AreLimited vars → CountsFit r vars
      → FilterFits (length r.arg) stage → FilterHasRoom r vars stage → AnswerFits a → InFilter r (filters.filter_turn r vars stage a)
  filter_limited vars stage a h counts k room told = go stage k room
    where
      f : filters.Filter
      f = filters.filter r vars

      x : FilterLimited r f
      x = record {
        src = cap_in_limited (argument 0 vars) (argument_limited 0 vars h);
        arg = take_limited (length r.arg) (drop 1 vars) (drop_limited 1 vars h);
        count = count_from (length r.arg) vars counts.count;
        got = number_in_limited (argument (length r.arg + 1) vars) (argument_limited (length r.arg + 1) vars h);
        made = number_in_limited (argument (length r.arg + 2) vars) (argument_limited (length r.arg + 2) vars h);
        counts = counts.counts;
        last = argument_limited (length r.arg + 3) vars h;
      }

      go : (s : filters.Stage) → FilterFits (length r.arg) s → FilterHasRoom r vars s → InFilter r (filters.filter_turn r vars s a)
      go (filters.opens args) k room =
          either (InFilter r) (is_some f.src || is_none (cap_in (argument 0 args))) (filters.answers f (returns_code 1))
          (filters.saves (filters.opened args f) filters.open_saved)
          (answers_limited f (returns_code 1) x (one_code 1 (omega arith)) refl)
          (filter_saves (filters.opened args f) filters.open_saved
          (record {
            src = cap_in_limited (argument 0 args) (argument_limited 0 args k.0);
            arg = drop_limited 1 args k.0;
            count = omega (arith, length-drop 1 args, k.1);
            got = x.got;
            made = x.made;
            counts = x.counts;
            last = x.last;
          }) tt tt)
      go filters.open_saved k room = saved_so_limited f a (returns_code trouble)
          (λ f. filters.answers f (returns_code 0)) x (one_code trouble (omega arith)) refl
          (λ g y. answers_limited g (returns_code 0) y (one_code 0 (omega arith)) refl)
      go (filters.transfers p) k room =
          either (InFilter r) (is_none f.src) (filters.answers f (returns_none trouble))
          (cond f.saved (filters.gives r f p) (filters.saves f (filters.transfer_saved p)))
          (none_limited f trouble (omega arith) x)
          (either (InFilter r) f.saved (filters.gives r f p) (filters.saves f (filters.transfer_saved p)) (gives_limited f p x)
          (filter_saves f (filters.transfer_saved p) x tt tt))
      go (filters.transfer_saved p) k room = saved_so_limited f a (returns_none trouble)
          (λ f. filters.gives r f p) x (no_item trouble (omega arith)) refl (λ g y. gives_limited g p y)
      go filters.asked k room = after_limited f (came a) x room (came_fits a told)
      go (filters.item_saved passed) k room = saved_so_limited f a (returns_none trouble)
          (λ f. cond passed (filters.answers f (returns_item f.last)) (filters.asks f)) x (no_item trouble (omega arith)) refl
          (λ g y. either (InFilter r) passed (filters.answers g (returns_item g.last)) (filters.asks g)
          (last_limited g y) (asks_limited g y))

-- 9. Sink

record InSink (t : sink.Moved) : Type 0 where
  vars : AreLimited t.0
  rest : SinkFits t.1
  room : goes_on t.2 ≡ true → SinkHasRoom t.0 t.1
  effect : EffectFits t.2

record DrainLimited (s : sink.Drain) : Type 0 where
  src : IsLimited (cap s.src)
  items : MakeList s.items

drain_values : (s : sink.Drain) → DrainLimited s → AreLimited (sink.values_of s)
drain_values s h = (h.src, (make_list s.items h.items, ((tt, tt), tt)))

drain_answers : (s : sink.Drain) (e : Effect) → DrainLimited s → EffectFits e → InSink (sink.answers s e)
drain_answers s e h k = record { vars = drain_values s h; rest = tt; room = λ on. tt; effect = k }

counts_limited : (s : sink.Drain) (c : ℕ) → c < 2 ^ 32 → DrainLimited s → InSink (sink.counts s c)
counts_limited s c small h = drain_answers s _ h (counted c small, (counted (length s.items) (omega (arith, h.items.1)), tt))

drain_saves : (s : sink.Drain) (stage : sink.Stage) → DrainLimited s → SinkFits stage
    → SinkHasRoom (sink.values_of (record s { saved = false })) stage → InSink (sink.saves s stage)
drain_saves s stage h k room = record {
  vars = drain_values (record s { saved = false }) (record { src = h.src; items = h.items });
  rest = k;
  room = λ on. room;
  effect = tt;
}

pump_limited : (s : sink.Drain) (wanted : ℤ) (taken : ℕ) → DrainLimited s → InSink (sink.goes_on s wanted taken)
pump_limited s wanted taken h =
    either InSink (not s.saved) (sink.saves s (sink.item_saved wanted taken)) after_saved
    (drain_saves s (sink.item_saved wanted taken) h tt tt)
    (either InSink (int_le wanted (pos taken)) (sink.counts s item_code) after_taken (counts_limited s item_code (omega arith) h)
    (either_by InSink (length s.items == LIST_LIMIT) (sink.counts s out_of_reach) (asking s.src)
    (λ e. counts_limited s out_of_reach (omega arith) h)
    (λ e. go e s.src h.src)))
  where
    asking : Option Cap → sink.Moved
    asking o = with_item o (λ c. (sink.values_of s, sink.asked wanted taken, asks_for c (pos (length s.items)))) (sink.counts s trouble)

    after_taken : sink.Moved
    after_taken = cond (length s.items == LIST_LIMIT) (sink.counts s out_of_reach) (asking s.src)

    after_saved : sink.Moved
    after_saved = cond (int_le wanted (pos taken)) (sink.counts s item_code) after_taken

    go : (length s.items == LIST_LIMIT) ≡ false → (o : Option Cap) → IsLimited (cap o) → InSink (asking o)
    go e None k = counts_limited s trouble (omega arith) h
    go e (Some c) k = record {
      vars = drain_values s h;
      rest = tt;
      room = λ on full. not_limit (length s.items) e (sym (back s.items) ∙ full);
      effect = (k, (counted (length s.items) (omega (arith, h.items.1)), tt));
    }

sink_after : (s : sink.Drain) (wanted : ℤ) (taken : ℕ) (c : streams.Came) → DrainLimited s → length s.items ≢ LIST_LIMIT → CameFits c
    → InSink (sink.after_asking s wanted taken c)
sink_after s wanted taken (an_item item) h room k =
    pump_limited (record s { items = s.items ++ text item ∷ []; saved = false }) wanted (taken + 1)
    (record { src = h.src; items = with_one s.items (text item) h.items (k, tt) (omega arith) room })
sink_after s wanted taken the_end h room k = counts_limited s end_code (omega arith) h
sink_after s wanted taken nothing h room k = counts_limited s trouble (omega arith) h

sink_limited : (vars : List Datum) (stage : sink.Stage) (a : Answer) → AreLimited vars → SinkFits stage → SinkHasRoom vars stage
    → AnswerFits a → InSink (sink.sink_turn vars stage a)
sink_limited vars stage a h k room told = go stage k room
  where
    s : sink.Drain
    s = sink.drain vars

    x : DrainLimited s
    x = record {
      src = cap_in_limited (argument 0 vars) (argument_limited 0 vars h);
      items = items_in_limited (argument 1 vars) (argument_limited 1 vars h);
    }

    go : (stage : sink.Stage) → SinkFits stage → SinkHasRoom vars stage → InSink (sink.sink_turn vars stage a)
    go (sink.opens src) k room =
        either InSink (is_some s.src || is_none src) (sink.answers s (returns_code 1))
        (sink.saves (record s { src = src }) sink.open_saved) (drain_answers s (returns_code 1) x (one_code 1 (omega arith)))
        (drain_saves (record s { src = src }) sink.open_saved (record { src = k; items = x.items }) tt tt)
    go sink.open_saved k room =
        either InSink (is_fine a) (sink.answers (record s { saved = true }) (returns_code 0)) (sink.answers s (returns_code trouble))
        (drain_answers (record s { saved = true }) (returns_code 0) (record { src = x.src; items = x.items }) (one_code 0 (omega arith)))
        (drain_answers s (returns_code trouble) x (one_code trouble (omega arith)))
    go (sink.pumps wanted) k room =
        either InSink (is_none s.src) (sink.counts s trouble) (sink.goes_on s wanted 0) (counts_limited s trouble (omega arith) x)
        (pump_limited s wanted 0 x)
    go (sink.asked wanted taken) k room = sink_after s wanted taken (came a) x room (came_fits a told)
    go (sink.item_saved wanted taken) k room =
        either InSink (is_fine a) (sink.goes_on (record s { saved = true }) wanted taken) (sink.counts s trouble)
        (pump_limited (record s { saved = true }) wanted taken (record { src = x.src; items = x.items }))
        (counts_limited s trouble (omega arith) x)
    go sink.reads k room = record { vars = h; rest = tt; room = λ on. tt; effect = (argument_limited 1 vars h, tt) }

-- 10. All

any_filter : (n : Native) (vars : List Datum) (stage : filters.Stage) (a : Answer) → RuleLaw (rule_of n) → AreLimited vars
    → CountsFit (rule_of n) vars → FilterFits (length (rule_of n).arg) stage → FilterHasRoom (rule_of n) vars stage → AnswerFits a
    → InFilter (rule_of n) (filters.filter_turn (rule_of n) vars stage a)
any_filter n vars stage a law h counts k room told = filter_limited (rule_of n) law vars stage a h counts k room told

pub native_limited : (n : Native) (vars : List Datum) (stage : Stage) (a : Answer) → AreLimited vars → VarsFit (native n) vars
    → StageFits n stage → StageHasRoom n vars stage → AnswerFits a
    → IsLeftLimited (native n) (turned_as of_native (native_turn n vars stage a))
native_limited native_type.Cell vars (in_cell stage) a h fits k room told =
    let t = cell_limited vars stage a h k in
    record { vars = t.vars; fits = tt; rest = t.rest; room = λ on. tt; effect = t.effect }
native_limited native_type.Directory vars (in_directory stage) a h fits k room told =
    let t = directory_limited vars stage a h fits k in
    record { vars = t.vars; fits = t.fits; rest = t.rest; room = λ on. tt; effect = t.effect }
native_limited native_type.Lines vars (in_lines stage) a h fits k room told =
    let t = lines_limited vars stage a h k in
    record { vars = t.vars; fits = tt; rest = t.rest; room = λ on. tt; effect = t.effect }
native_limited native_type.Take vars (in_filter stage) a h fits k room told =
    let t = any_filter native_type.Take vars stage a take_law h fits k room told in
    record { vars = t.vars; fits = t.fits; rest = t.rest; room = t.room; effect = t.effect }
native_limited native_type.Skip vars (in_filter stage) a h fits k room told =
    let t = any_filter native_type.Skip vars stage a skip_law h fits k room told in
    record { vars = t.vars; fits = t.fits; rest = t.rest; room = t.room; effect = t.effect }
native_limited native_type.Only vars (in_filter stage) a h fits k room told =
    let t = any_filter native_type.Only vars stage a only_law h fits k room told in
    record { vars = t.vars; fits = t.fits; rest = t.rest; room = t.room; effect = t.effect }
native_limited native_type.Number vars (in_filter stage) a h fits k room told =
    let t = any_filter native_type.Number vars stage a number_law h fits k room told in
    record { vars = t.vars; fits = t.fits; rest = t.rest; room = t.room; effect = t.effect }
native_limited native_type.Sink vars (in_sink stage) a h fits k room told =
    let t = sink_limited vars stage a h k room told in
    record { vars = t.vars; fits = tt; rest = t.rest; room = t.room; effect = t.effect }
native_limited _ vars stage a h fits k room told = absurd k
