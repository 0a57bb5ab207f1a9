-- An operation of a native type begins with values within the limits, and so does an Eject of one, new or from what was kept of it.
use Rattle.std.proofs.Common.{◌≡◌, ℕ, suc, ◌+◌, ◌==◌, pos, Bool, true, false, cond, ◌&&◌, List, [], ◌∷◌, length, None, Some, codes}
use Rattle.std.proofs.Common.{refl, ap, sym, ◌∙◌, subst, arith}
use Rattle.std.specs.Prelude.{int_le, map}
use Rattle.std.specs.Cmp.{eq_by_cmp_equiv}
use Rattle.std.specs.Cmp.Lexicographic.{nat_list_cmp_total}
use Rattle.std.specs.List.{find}
use Rattle.std.proofs.lemmas.Bool.{eqb-true, and_parts}
use Rattle.std.proofs.lemmas.List.{length-map}
use Rattle.capability.specs.declared.Uid.{Uid}
use Rattle.eden_value.specs.Datum.{Datum, number, truth, text, cap, list, no_data}
use Rattle.eden_value.specs.Shape.{Shape, ints, caps, has_shape}
use Rattle.eden_codec.specs.declared.rep.Rep.{Rep}
use Rattle.eden_model.specs.Map.{same_text}
use Rattle.epl_syntax.specs.Cell as cell
use Rattle.epl_syntax.specs.Directory as directory
use Rattle.epl_syntax.specs.Edentype.{native}
use Rattle.epl_syntax.specs.Filters as filters
use Rattle.epl_syntax.specs.Kinds.{have_shapes}
use Rattle.epl_syntax.specs.Lines as lines
use Rattle.epl_syntax.specs.Meaning.{operation_of, first_values, values_from, durable_from, durable_kinds, is_current, version_of}
use Rattle.epl_syntax.specs.Natives.{first_stage, native_condition}
use Rattle.epl_syntax.specs.Outline.{Operation, with_kept}
use Rattle.epl_syntax.specs.Simple.{argument, number_in, text_in, cap_in, items_in, of_one_class}
use Rattle.epl_syntax.specs.Sink as sink
use Rattle.epl_syntax.specs.declared.types.Native.{Native}
use Rattle.epl_syntax.specs.declared.types.Native.TheVariants as native_type
use Rattle.value_laws.specs.Limited.{IsLimited, AreLimited, CellFits, DirectoryFits, LinesFit, FilterFits, SinkFits, StageFits, CountsFit}
use Rattle.value_laws.specs.Limited.{VarsFit, FilterHasRoom, SinkHasRoom, StageHasRoom}
use Rattle.value_laws.proofs.Natives.{argument_limited, items_in_limited, cap_in_limited, empty_text, text_in_limited, counted, AreEntries}
use Rattle.value_laws.proofs.Values.{make_list, either, either_by}

-- 1. How operations begin

directory_first : (name : List ℕ) (args : List Datum) → AreLimited args → DirectoryFits (directory.first_stage name args)
directory_first name args h =
    either DirectoryFits (same_text name (codes "AddEntry")) (directory.adds entry (cap_in (argument 1 args))) after_first
    (text_in_limited (argument 0 args) (argument_limited 0 args h), cap_in_limited (argument 1 args) (argument_limited 1 args h))
    (either DirectoryFits (same_text name (codes "LookUp")) (directory.looks entry) after_second tt
    (either DirectoryFits (same_text name (codes "DeleteEntry")) (directory.deletes entry) directory.tells tt tt))
  where
    entry : List ℕ
    entry = text_in (argument 0 args)

    after_second : directory.Stage
    after_second = cond (same_text name (codes "DeleteEntry")) (directory.deletes entry) directory.tells

    after_first : directory.Stage
    after_first = cond (same_text name (codes "LookUp")) (directory.looks entry) after_second

cell_first : (name : List ℕ) (args : List Datum) → AreLimited args → CellFits (cell.first_stage name args)
cell_first name args h =
    either CellFits (same_text name (codes "Set")) (cell.sets_to args) after_set (sets args h)
    (either CellFits (same_text name (codes "Get")) cell.gets after_get tt
    (either CellFits (same_text name (codes "Save")) cell.saves after_save tt
    (either CellFits (same_text name (codes "Sleep")) cell.sleeps cell.kills tt tt)))
  where
    after_save : cell.Stage
    after_save = cond (same_text name (codes "Sleep")) cell.sleeps cell.kills

    after_get : cell.Stage
    after_get = cond (same_text name (codes "Save")) cell.saves after_save

    after_set : cell.Stage
    after_set = cond (same_text name (codes "Get")) cell.gets after_get

    sets : (args : List Datum) → AreLimited args → CellFits (cell.sets_to args)
    sets (number n ∷ []) h = h.0.1
    sets _ h = tt

lines_first : (name : List ℕ) (args : List Datum) → AreLimited args → LinesFit (lines.first_stage name args)
lines_first name args h = either LinesFit (same_text name (codes "Fill"))
    (lines.fills (items_in (argument 0 args))) (lines.transfers (number_in (argument 0 args)))
    (make_list (items_in (argument 0 args)) (items_in_limited (argument 0 args) (argument_limited 0 args h))) tt

filter_first : (n : ℕ) (name : List ℕ) (args : List Datum) → AreLimited args
    → (same_text name (codes "Open") ≡ true → length args ≡ n + 1) → FilterFits n (filters.first_stage name args)
filter_first n name args h count = either_by (FilterFits n) (same_text name (codes "Open")) (filters.opens args)
    (filters.transfers (number_in (argument 0 args))) (λ e. (h, count e)) (λ e. tt)

filter_ready : (r : filters.Rule) (vars : List Datum) (name : List ℕ) (args : List Datum)
    → FilterHasRoom r vars (filters.first_stage name args)
filter_ready r vars name args = either (FilterHasRoom r vars) (same_text name (codes "Open")) (filters.opens args)
    (filters.transfers (number_in (argument 0 args))) tt tt

sink_first : (name : List ℕ) (args : List Datum) → AreLimited args → SinkFits (sink.first_stage name args)
sink_first name args h =
    either SinkFits (same_text name (codes "Open")) (sink.opens (cap_in (argument 0 args))) after_first
    (cap_in_limited (argument 0 args) (argument_limited 0 args h))
    (either SinkFits (same_text name (codes "Pump")) (sink.pumps (number_in (argument 0 args))) sink.reads tt tt)
  where
    after_first : sink.Stage
    after_first = cond (same_text name (codes "Pump")) (sink.pumps (number_in (argument 0 args))) sink.reads

sink_ready : (vars : List Datum) (name : List ℕ) (args : List Datum) → SinkHasRoom vars (sink.first_stage name args)
sink_ready vars name args =
    either (SinkHasRoom vars) (same_text name (codes "Open")) (sink.opens (cap_in (argument 0 args))) after_first tt
    (either (SinkHasRoom vars) (same_text name (codes "Pump")) (sink.pumps (number_in (argument 0 args))) sink.reads tt tt)
  where
    after_first : sink.Stage
    after_first = cond (same_text name (codes "Pump")) (sink.pumps (number_in (argument 0 args))) sink.reads

-- as many values as kinds
many_shapes : (ds : List Datum) (shapes : List Shape) → have_shapes ds shapes ≡ true → length ds ≡ length shapes
many_shapes [] [] h = refl
many_shapes [] (s ∷ shapes) h = absurd (let x : false ≡ true = h in cc x)
many_shapes (d ∷ ds) [] h = absurd (let x : false ≡ true = h in cc x)
many_shapes (d ∷ ds) (s ∷ shapes) h = ap suc (many_shapes ds shapes (and_parts (has_shape d s) (have_shapes ds shapes) h).1)

-- Open of a filter takes so many arguments
opens_count : (r : filters.Rule) (name : List ℕ) (args : List Datum) (o : Operation)
    → find (λ (o : Operation). same_text o.name name) (filters.filter_outline r).operations ≡ Some o
    → have_shapes args o.params ≡ true → same_text name (codes "Open") ≡ true → length args ≡ length r.arg + 1
opens_count r name args o is shapes open_ =
    many_shapes args (caps ∷ map (λ v. v.kind) r.arg) (subst (λ (x : Operation). have_shapes args x.params ≡ true) (sym same) shapes)
    ∙ omega (arith, length-map r.arg (λ v. v.kind))
  where
    at_open : same_text (codes "Open") name ≡ true
    at_open = (eq_by_cmp_equiv nat_list_cmp_total).symm (codes "Open") name ∙ open_

    the_open : Operation
    the_open = of_one_class (codes "Open") 1 (caps ∷ map (λ v. v.kind) r.arg)

    same : the_open ≡ o
    same = let both : Some the_open ≡ Some o = sym (ap (λ b. cond b (Some the_open)
        (find (λ (o : Operation). same_text o.name name) (of_one_class (codes "Transfer") 2 (ints ∷ []) ∷ []))) at_open) ∙ is in cc both

pub first_limited : (n : Native) (vars : List Datum) (name : List ℕ) (args : List Datum) (o : Operation)
    → operation_of (native n) name ≡ Some o → have_shapes args o.params ≡ true → AreLimited args
    → StageFits n (first_stage n name args) × StageHasRoom n vars (first_stage n name args)
first_limited native_type.Cell vars name args o is shapes h = (cell_first name args h, tt)
first_limited native_type.Directory vars name args o is shapes h = (directory_first name args h, tt)
first_limited native_type.Lines vars name args o is shapes h = (lines_first name args h, tt)
first_limited native_type.Take vars name args o is shapes h = (
  filter_first 1 name args h (opens_count filters.take_rule name args o is shapes),
  filter_ready filters.take_rule vars name args,
)
first_limited native_type.Skip vars name args o is shapes h = (
  filter_first 1 name args h (opens_count filters.skip_rule name args o is shapes),
  filter_ready filters.skip_rule vars name args,
)
first_limited native_type.Only vars name args o is shapes h = (
  filter_first 1 name args h (opens_count filters.only_rule name args o is shapes),
  filter_ready filters.only_rule vars name args,
)
first_limited native_type.Number vars name args o is shapes h = (
  filter_first 0 name args h (opens_count filters.number_rule name args o is shapes),
  filter_ready filters.number_rule vars name args,
)
first_limited native_type.Sink vars name args o is shapes h = (sink_first name args h, sink_ready vars name args)

-- 2. How an Eject begins

empty_list : IsLimited (list no_data)
empty_list = ((omega arith, tt), tt)

nothing_yet : IsLimited (text [])
nothing_yet = (empty_text, tt)

some_count : AreLimited (cap None ∷ number (pos 0) ∷ number (pos 0) ∷ number (pos 0) ∷ text [] ∷ truth true ∷ [])
some_count = ((tt, tt), (counted 0 (omega arith), (counted 0 (omega arith), (counted 0 (omega arith), (nothing_yet, ((tt, tt), tt))))))

some_text : AreLimited (cap None ∷ text [] ∷ number (pos 0) ∷ number (pos 0) ∷ text [] ∷ truth true ∷ [])
some_text = ((tt, tt), (nothing_yet, (counted 0 (omega arith), (counted 0 (omega arith), (nothing_yet, ((tt, tt), tt))))))

no_argument : AreLimited (cap None ∷ number (pos 0) ∷ number (pos 0) ∷ text [] ∷ truth true ∷ [])
no_argument = ((tt, tt), (counted 0 (omega arith), (counted 0 (omega arith), (nothing_yet, ((tt, tt), tt)))))

pub first_values_fit : (n : Native) → AreLimited (first_values (native n)) × VarsFit (native n) (first_values (native n))
first_values_fit native_type.Cell = ((counted 0 (omega arith), tt), tt)
first_values_fit native_type.Directory = ((empty_list, (empty_list, tt)), refl)
first_values_fit native_type.Lines = (((tt, tt), (empty_list, ((tt, tt), tt))), tt)
first_values_fit native_type.Take = (some_count, record { count = refl; counts = refl })
first_values_fit native_type.Skip = (some_count, record { count = refl; counts = refl })
first_values_fit native_type.Only = (some_text, record { count = refl; counts = refl })
first_values_fit native_type.Number = (no_argument, record { count = refl; counts = refl })
first_values_fit native_type.Sink = (((tt, tt), (empty_list, ((tt, tt), tt))), tt)

-- 3. How an Eject starts

-- what it starts from is of the kinds, and meets the condition
record IsCurrent (n : Native) (durable : List Datum) : Type 0 where
  kinds : length durable ≡ length (durable_kinds (native n))
  condition : native_condition n durable ≡ true

current : (n : Native) (rep : Rep) (me : Uid) (durable : List Datum) → durable_from (native n) rep me ≡ Some durable → IsCurrent n durable
current n rep me durable is = go (is_current (native n) rep) refl is
  where
    go : (b : Bool) → is_current (native n) rep ≡ b → cond b (Some rep.values) None ≡ Some durable → IsCurrent n durable
    go false at e = absurd (let x : None ≡ Some durable = e in cc x)
    go true at e =
        let same : rep.values ≡ durable = cc e in
        let parts = and_parts (rep.version == version_of (native n))
        (have_shapes rep.values (durable_kinds (native n)) && native_condition n rep.values) at in
        let both = and_parts (have_shapes rep.values (durable_kinds (native n))) (native_condition n rep.values) parts.1 in
        subst (IsCurrent n) same (record { kinds = many_shapes rep.values (durable_kinds (native n)) both.0; condition = both.1 })

directory_starts : (ds : List Datum) → length ds ≡ 2 → directory.are_entries ds ≡ true
    → AreEntries (with_kept directory.directory.slots ds)
directory_starts [] h k = absurd (omega (arith, h))
directory_starts (a ∷ []) h k = absurd (omega (arith, h))
directory_starts (a ∷ b ∷ []) h k = eqb-true (length (items_in a)) (length (items_in b))
    (and_parts (length (items_in a) == length (items_in b)) (directory.all_differ (items_in a)) k).0
directory_starts (a ∷ b ∷ c ∷ ds) h k = absurd (omega (arith, h))

take_starts : (ds : List Datum) → length ds ≡ 5 → filters.counts_fit filters.take_rule ds ≡ true
    → CountsFit filters.take_rule (with_kept (filters.filter_slots filters.take_rule) ds)
take_starts (a ∷ b ∷ c ∷ d ∷ e ∷ []) h k = record {
  count = refl;
  counts = (and_parts (int_le (pos 0) (number_in d)) (int_le (number_in d) (number_in c)) k).1;
}
take_starts [] h k = absurd (omega (arith, h))
take_starts (a ∷ []) h k = absurd (omega (arith, h))
take_starts (a ∷ b ∷ []) h k = absurd (omega (arith, h))
take_starts (a ∷ b ∷ c ∷ []) h k = absurd (omega (arith, h))
take_starts (a ∷ b ∷ c ∷ d ∷ []) h k = absurd (omega (arith, h))
take_starts (a ∷ b ∷ c ∷ d ∷ e ∷ f ∷ ds) h k = absurd (omega (arith, h))

skip_starts : (ds : List Datum) → length ds ≡ 5 → filters.counts_fit filters.skip_rule ds ≡ true
    → CountsFit filters.skip_rule (with_kept (filters.filter_slots filters.skip_rule) ds)
skip_starts (a ∷ b ∷ c ∷ d ∷ e ∷ []) h k = record {
  count = refl;
  counts = (and_parts (int_le (pos 0) (number_in d)) (int_le (number_in d) (number_in c)) k).1;
}
skip_starts [] h k = absurd (omega (arith, h))
skip_starts (a ∷ []) h k = absurd (omega (arith, h))
skip_starts (a ∷ b ∷ []) h k = absurd (omega (arith, h))
skip_starts (a ∷ b ∷ c ∷ []) h k = absurd (omega (arith, h))
skip_starts (a ∷ b ∷ c ∷ d ∷ []) h k = absurd (omega (arith, h))
skip_starts (a ∷ b ∷ c ∷ d ∷ e ∷ f ∷ ds) h k = absurd (omega (arith, h))

only_starts : (ds : List Datum) → length ds ≡ 5 → filters.counts_fit filters.only_rule ds ≡ true
    → CountsFit filters.only_rule (with_kept (filters.filter_slots filters.only_rule) ds)
only_starts (a ∷ b ∷ c ∷ d ∷ e ∷ []) h k = record {
  count = refl;
  counts = (and_parts (int_le (pos 0) (number_in d)) (int_le (number_in d) (number_in c)) k).1;
}
only_starts [] h k = absurd (omega (arith, h))
only_starts (a ∷ []) h k = absurd (omega (arith, h))
only_starts (a ∷ b ∷ []) h k = absurd (omega (arith, h))
only_starts (a ∷ b ∷ c ∷ []) h k = absurd (omega (arith, h))
only_starts (a ∷ b ∷ c ∷ d ∷ []) h k = absurd (omega (arith, h))
only_starts (a ∷ b ∷ c ∷ d ∷ e ∷ f ∷ ds) h k = absurd (omega (arith, h))

number_starts : (ds : List Datum) → length ds ≡ 4 → filters.counts_fit filters.number_rule ds ≡ true
    → CountsFit filters.number_rule (with_kept (filters.filter_slots filters.number_rule) ds)
number_starts (a ∷ b ∷ c ∷ d ∷ []) h k = record {
  count = refl;
  counts = (and_parts (int_le (pos 0) (number_in c)) (int_le (number_in c) (number_in b)) k).1;
}
number_starts [] h k = absurd (omega (arith, h))
number_starts (a ∷ []) h k = absurd (omega (arith, h))
number_starts (a ∷ b ∷ []) h k = absurd (omega (arith, h))
number_starts (a ∷ b ∷ c ∷ []) h k = absurd (omega (arith, h))
number_starts (a ∷ b ∷ c ∷ d ∷ e ∷ ds) h k = absurd (omega (arith, h))

pub started_fit : (n : Native) (rep : Rep) (me : Uid) (durable : List Datum) → durable_from (native n) rep me ≡ Some durable
    → VarsFit (native n) (values_from (native n) durable)
started_fit native_type.Directory rep me durable is =
    let c = current native_type.Directory rep me durable is in directory_starts durable c.kinds c.condition
started_fit native_type.Take rep me durable is =
    let c = current native_type.Take rep me durable is in take_starts durable c.kinds c.condition
started_fit native_type.Skip rep me durable is =
    let c = current native_type.Skip rep me durable is in skip_starts durable c.kinds c.condition
started_fit native_type.Only rep me durable is =
    let c = current native_type.Only rep me durable is in only_starts durable c.kinds c.condition
started_fit native_type.Number rep me durable is =
    let c = current native_type.Number rep me durable is in number_starts durable c.kinds c.condition
started_fit native_type.Cell rep me durable is = tt
started_fit native_type.Lines rep me durable is = tt
started_fit native_type.Sink rep me durable is = tt
