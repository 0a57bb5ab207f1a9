-- No turn of a native type creates an Eject, uses a monitor, or ends without an answer.
use Rattle.std.proofs.Common.{◌+◌, ◌==◌, ℕ, Bool, true, false, cond, not, ◌&&◌, ◌||◌, List, [], ◌∷◌, ◌++◌, length, Option, None, Some}
use Rattle.std.proofs.Common.{is_some}
use Rattle.std.specs.Prelude.{ℤ, pos, negsuc, int_le, ◌-ℤ◌, slice_get}
use Rattle.std.specs.Ordering.{int_eq}
use Rattle.eden_value.specs.Datum.{Datum, text}
use Rattle.eden_value.specs.declared.value.TheConstants.{LIST_LIMIT}
use Rattle.eden_model.specs.Map.{with_item, is_none}
use Rattle.epl_syntax.specs.declared.effect.Answer.{Answer}
use Rattle.epl_syntax.specs.declared.effect.Effect.{Effect}
use Rattle.epl_syntax.specs.declared.effect.Effect.TheVariants as effect
use Rattle.epl_syntax.specs.declared.types.Native.{Native}
use Rattle.epl_syntax.specs.Simple.{argument, is_fine, cap_in}
use Rattle.epl_syntax.specs.Streams.{end_code, out_of_reach, returns_item, returns_none, Came, an_item, the_end, nothing, came}
use Rattle.epl_syntax.specs.Cell as cell
use Rattle.epl_syntax.specs.Directory as directory
use Rattle.epl_syntax.specs.Lines as lines
use Rattle.epl_syntax.specs.Filters as filters
use Rattle.epl_syntax.specs.Sink as sink
use Rattle.epl_syntax.specs.Natives.{Stage, in_cell, in_directory, in_lines, in_filter, in_sink, rule_of, native_turn}

-- the effects that native types have
abbrev pub IsPlain : Effect → Type 0
IsPlain (effect.Return results) = Unit {0}
IsPlain effect.Checkpoint = Unit {0}
IsPlain effect.Destroy = Unit {0}
IsPlain effect.Deactivate = Unit {0}
IsPlain (effect.Invoke target operation args) = Unit {0}
IsPlain _ = ⊥

plain-cond : {S : Type 0} (b : Bool) (x y : List Datum × S × Effect) → IsPlain x.2 → IsPlain y.2 → IsPlain (cond b x y).2
plain-cond true x y a b = a
plain-cond false x y a b = b

plain-item : {S X : Type 0} (o : Option X) (f : X → List Datum × S × Effect) (d : List Datum × S × Effect) → ((x : X) → IsPlain (f x).2)
    → IsPlain d.2 → IsPlain (with_item o f d).2
plain-item None f d each none = none
plain-item (Some x) f d each none = each x

plain-cell : (vars : List Datum) (stage : cell.Stage) (answer : Answer) → IsPlain (cell.cell_turn vars stage answer).2
plain-cell vars (cell.sets n) answer = tt
plain-cell vars cell.gets answer = tt
plain-cell vars cell.saves answer = tt
plain-cell vars cell.saved answer = tt
plain-cell vars cell.sleeps answer = tt
plain-cell vars cell.kills answer = tt
plain-cell vars cell.killed answer = tt

plain-directory : (vars : List Datum) (stage : directory.Stage) (answer : Answer) → IsPlain (directory.directory_turn vars stage answer).2
plain-directory vars (directory.adds name held) answer = let d = directory.entries vars in
    plain-item (directory.place_of (text name) d) _ _ (λ i. tt) (plain-cond (length d.names == LIST_LIMIT) _ _ tt tt)
plain-directory vars (directory.looks name) answer = tt
plain-directory vars (directory.deletes name) answer = plain-item (directory.place_of (text name) (directory.entries vars)) _ _ (λ i. tt) tt
plain-directory vars directory.tells answer = tt
plain-directory vars directory.changed answer = tt

plain-line : (items : List Datum) (p : ℤ) → IsPlain (lines.item_at items p)
plain-line items (pos i) = go (slice_get items i)
  where
    go : (o : Option Datum) → IsPlain (with_item o returns_item (returns_none (cond (i == length items) end_code out_of_reach)))
    go None = tt
    go (Some d) = tt
plain-line items (negsuc i) = tt

plain-lines : (vars : List Datum) (stage : lines.Stage) (answer : Answer) → IsPlain (lines.lines_turn vars stage answer).2
plain-lines vars (lines.fills items) answer = plain-cond (lines.source vars).filled _ _ tt tt
plain-lines vars lines.fill_saved answer = plain-cond (is_fine answer) _ _ tt tt
plain-lines vars (lines.transfers p) answer = let s = lines.source vars in
    plain-cond s.filled _ _ (plain-cond s.saved _ _ (plain-line s.items p) tt) tt
plain-lines vars (lines.transfer_saved p) answer = plain-cond (is_fine answer) _ _ (plain-line (lines.source vars).items p) tt

plain-asks : (f : filters.Filter) → IsPlain (filters.asks f).2
plain-asks f = plain-cond (filters.is_spent f.got) _ _ tt (plain-item f.src _ _ (λ c. tt) tt)

plain-gives : (r : filters.Rule) (f : filters.Filter) (p : ℤ) → IsPlain (filters.gives r f p).2
plain-gives r f p = plain-cond (int_le (pos 1) f.made && int_eq p (f.made -ℤ pos 1)) _ _ tt
    (plain-cond (not (int_eq p f.made)) _ _ tt (plain-cond (r.is_over f) _ _ tt (plain-asks f)))

plain-after : (r : filters.Rule) (f : filters.Filter) (c : Came) → IsPlain (filters.after_asking r f c).2
plain-after r f (an_item item) = plain-cond (filters.is_spent f.got || filters.is_spent f.made) _ _ tt
    (plain-cond (r.passes f item) _ _ tt tt)
plain-after r f the_end = tt
plain-after r f nothing = tt

plain-filter : (r : filters.Rule) (vars : List Datum) (stage : filters.Stage) (answer : Answer)
    → IsPlain (filters.filter_turn r vars stage answer).2
plain-filter r vars (filters.opens args) answer =
    plain-cond (is_some (filters.filter r vars).src || is_none (cap_in (argument 0 args))) _ _ tt tt
plain-filter r vars filters.open_saved answer = plain-cond (is_fine answer) _ _ tt tt
plain-filter r vars (filters.transfers p) answer = let f = filters.filter r vars in
    plain-cond (is_none f.src) _ _ tt (plain-cond f.saved _ _ (plain-gives r f p) tt)
plain-filter r vars (filters.transfer_saved p) answer = plain-cond (is_fine answer) _ _
    (plain-gives r (record (filters.filter r vars) { saved = true }) p) tt
plain-filter r vars filters.asked answer = plain-after r (filters.filter r vars) (came answer)
plain-filter r vars (filters.item_saved passed) answer = plain-cond (is_fine answer) _ _
    (plain-cond passed _ _ tt (plain-asks (record (filters.filter r vars) { saved = true }))) tt

plain-goes_on : (s : sink.Drain) (wanted : ℤ) (taken : ℕ) → IsPlain (sink.goes_on s wanted taken).2
plain-goes_on s wanted taken = plain-cond (not s.saved) _ _ tt (plain-cond (int_le wanted (pos taken)) _ _ tt
    (plain-cond (length s.items == LIST_LIMIT) _ _ tt (plain-item s.src _ _ (λ c. tt) tt)))

plain-asked : (s : sink.Drain) (wanted : ℤ) (taken : ℕ) (c : Came) → IsPlain (sink.after_asking s wanted taken c).2
plain-asked s wanted taken (an_item item) =
    plain-goes_on (record s { items = s.items ++ text item ∷ []; saved = false }) wanted (taken + 1)
plain-asked s wanted taken the_end = tt
plain-asked s wanted taken nothing = tt

plain-sink : (vars : List Datum) (stage : sink.Stage) (answer : Answer) → IsPlain (sink.sink_turn vars stage answer).2
plain-sink vars (sink.opens src) answer = plain-cond (is_some (sink.drain vars).src || is_none src) _ _ tt tt
plain-sink vars sink.open_saved answer = plain-cond (is_fine answer) _ _ tt tt
plain-sink vars (sink.pumps wanted) answer = plain-cond (is_none (sink.drain vars).src) _ _ tt (plain-goes_on (sink.drain vars) wanted 0)
plain-sink vars (sink.asked wanted taken) answer = plain-asked (sink.drain vars) wanted taken (came answer)
plain-sink vars (sink.item_saved wanted taken) answer = plain-cond (is_fine answer) _ _
    (plain-goes_on (record (sink.drain vars) { saved = true }) wanted taken) tt
plain-sink vars sink.reads answer = tt

pub plain-native : (n : Native) (vars : List Datum) (stage : Stage) (answer : Answer) → IsPlain (native_turn n vars stage answer).2
plain-native n vars (in_cell stage) answer = plain-cell vars stage answer
plain-native n vars (in_directory stage) answer = plain-directory vars stage answer
plain-native n vars (in_lines stage) answer = plain-lines vars stage answer
plain-native n vars (in_filter stage) answer = plain-filter (rule_of n) vars stage answer
plain-native n vars (in_sink stage) answer = plain-sink vars stage answer
