-- The native types, which every script has: their outlines, what stored values have to meet, and their turns.
use Rattle.std.specs.Prelude.{ℕ, Bool, true, List, [], ◌∷◌}
use Rattle.eden_value.specs.Datum.{Datum}
use Rattle.epl_syntax.specs.declared.effect.Answer.{Answer}
use Rattle.epl_syntax.specs.declared.effect.Effect.{Effect}
use Rattle.epl_syntax.specs.declared.types.Native.{Native}
use Rattle.epl_syntax.specs.declared.types.Native.TheVariants as native
use Rattle.epl_syntax.specs.Outline.{Outline}
use Rattle.epl_syntax.specs.Cell as cell
use Rattle.epl_syntax.specs.Directory as directory
use Rattle.epl_syntax.specs.Lines as lines
use Rattle.epl_syntax.specs.Filters.{Rule, take_rule, skip_rule, only_rule, number_rule}
use Rattle.epl_syntax.specs.Filters as filters
use Rattle.epl_syntax.specs.Sink as sink

-- the rule of a filter; for a type that is none it is that of Take
abbrev pub rule_of : Native → Rule
rule_of native.Skip = skip_rule
rule_of native.Only = only_rule
rule_of native.Number = number_rule
rule_of _ = take_rule

-- the native types, in order
abbrev pub native_types : List Native
native_types = native.Cell ∷ native.Directory ∷ native.Lines ∷ native.Take ∷ native.Skip ∷ native.Only ∷ native.Number ∷ native.Sink ∷ []

-- what is seen of a native type
abbrev pub native_outline : Native → Outline
native_outline native.Cell = cell.cell
native_outline native.Directory = directory.directory
native_outline native.Lines = lines.lines
native_outline native.Take = filters.filter_outline take_rule
native_outline native.Skip = filters.filter_outline skip_rule
native_outline native.Only = filters.filter_outline only_rule
native_outline native.Number = filters.filter_outline number_rule
native_outline native.Sink = sink.sink

-- the name of a native type
abbrev pub native_name : Native → List ℕ
native_name n = (native_outline n).name

-- what stored values have to meet besides their kinds
abbrev pub native_condition : Native → List Datum → Bool
native_condition native.Directory durable = directory.are_entries durable
native_condition native.Take durable = filters.counts_fit take_rule durable
native_condition native.Skip durable = filters.counts_fit skip_rule durable
native_condition native.Only durable = filters.counts_fit only_rule durable
native_condition native.Number durable = filters.counts_fit number_rule durable
native_condition _ durable = true

-- what is left to do of an operation
pub data Stage : Type 0 where
  in_cell : cell.Stage → Stage
  in_directory : directory.Stage → Stage
  in_lines : lines.Stage → Stage
  -- of one of the four filters
  in_filter : filters.Stage → Stage
  in_sink : sink.Stage → Stage

-- how an operation begins
abbrev pub first_stage : Native → List ℕ → List Datum → Stage
first_stage native.Cell name args = in_cell (cell.first_stage name args)
first_stage native.Directory name args = in_directory (directory.first_stage name args)
first_stage native.Lines name args = in_lines (lines.first_stage name args)
first_stage native.Take name args = in_filter (filters.first_stage name args)
first_stage native.Skip name args = in_filter (filters.first_stage name args)
first_stage native.Only name args = in_filter (filters.first_stage name args)
first_stage native.Number name args = in_filter (filters.first_stage name args)
first_stage native.Sink name args = in_sink (sink.first_stage name args)

-- what a turn of one type came to, among those of all
abbrev pub among : {S : Type 0} → (S → Stage) → List Datum × S × Effect → List Datum × Stage × Effect
among stage t = (t.0, stage t.1, t.2)

-- a turn: the values after it, what is left to do, and the effect
abbrev pub native_turn : Native → List Datum → Stage → Answer → List Datum × Stage × Effect
native_turn n vars (in_cell stage) answer = among in_cell (cell.cell_turn vars stage answer)
native_turn n vars (in_directory stage) answer = among in_directory (directory.directory_turn vars stage answer)
native_turn n vars (in_lines stage) answer = among in_lines (lines.lines_turn vars stage answer)
native_turn n vars (in_filter stage) answer = among in_filter (filters.filter_turn (rule_of n) vars stage answer)
native_turn n vars (in_sink stage) answer = among in_sink (sink.sink_turn vars stage answer)
