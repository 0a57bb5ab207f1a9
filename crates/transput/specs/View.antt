-- The code's types as those of the meaning.
use Rattle.std.specs.Prelude.{zero, suc, pos, Bool, true, false, List, [], ◌∷◌, Option, None, Some}
use Rattle.eden_value.specs.Datum.{Datum, number, text}
use Rattle.eden_value.specs.View.{datum}
use Rattle.eden_value.specs.declared.value.Value.{Value}
use Rattle.epl_syntax.specs.declared.types.Native.{Native}
use Rattle.epl_syntax.specs.declared.types.Native.TheVariants as native
use Rattle.epl_syntax.specs.Natives as natives
use Rattle.epl_syntax.specs.Streams as streams
use Rattle.epl_syntax.specs.Lines as lines
use Rattle.epl_syntax.specs.Filters as filters
use Rattle.epl_syntax.specs.Sink as sink
use Rattle.transput.specs.declared.effects.Heard.{Heard}
use Rattle.transput.specs.declared.effects.Heard.TheVariants as heard
use Rattle.transput.specs.declared.rule.Rule.{Rule}
use Rattle.transput.specs.declared.rule.Rule.TheVariants as rule
use Rattle.transput.specs.declared.lines.LinesStage.{LinesStage}
use Rattle.transput.specs.declared.lines.LinesStage.TheVariants as of_lines
use Rattle.transput.specs.declared.filter.FilterStage.{FilterStage}
use Rattle.transput.specs.declared.filter.FilterStage.TheVariants as of_filter
use Rattle.transput.specs.declared.filter.Filter.{Filter}
use Rattle.transput.specs.declared.filter.Moved.{Moved}
use Rattle.transput.specs.declared.sink.SinkStage.{SinkStage}
use Rattle.transput.specs.declared.sink.SinkStage.TheVariants as of_sink
use Rattle.transput.specs.declared.sink.Drain.{Drain}
use Rattle.transput.specs.declared.sink.Pumped.{Pumped}
use Rattle.transput.specs.declared.stream.Stream.{Stream}
use Rattle.transput.specs.declared.stream.Stream.TheVariants as stream
use Rattle.transput.specs.declared.stream.Stage.{Stage}
use Rattle.transput.specs.declared.stream.Stage.TheVariants as stage

-- 1. The six types

-- the native type that a stream type is
abbrev pub native_of : Stream → Native
native_of stream.Lines = native.Lines
native_of stream.Take = native.Take
native_of stream.Skip = native.Skip
native_of stream.Only = native.Only
native_of stream.Number = native.Number
native_of stream.Sink = native.Sink

-- whether a native type is one of them
abbrev pub is_stream : Native → Bool
is_stream native.Cell = false
is_stream native.Directory = false
is_stream _ = true

-- what tells a filter from the others
abbrev pub rule_of : Rule → filters.Rule
rule_of rule.Take = filters.take_rule
rule_of rule.Skip = filters.skip_rule
rule_of rule.Only = filters.only_rule
rule_of rule.Number = filters.number_rule

-- 2. What is left to do

-- of an operation of Lines
abbrev pub lines_stage : LinesStage → lines.Stage
lines_stage (of_lines.Fills items) = lines.fills items
lines_stage of_lines.FillSaved = lines.fill_saved
lines_stage (of_lines.Transfers position) = lines.transfers position
lines_stage (of_lines.TransferSaved position) = lines.transfer_saved position

-- of an operation of a filter
abbrev pub filter_stage : FilterStage → filters.Stage
filter_stage (of_filter.Opens args) = filters.opens args
filter_stage of_filter.OpenSaved = filters.open_saved
filter_stage (of_filter.Transfers position) = filters.transfers position
filter_stage (of_filter.TransferSaved position) = filters.transfer_saved position
filter_stage of_filter.Asked = filters.asked
filter_stage (of_filter.ItemSaved passed) = filters.item_saved passed

-- of an operation of a Sink
abbrev pub sink_stage : SinkStage → sink.Stage
sink_stage (of_sink.Opens src) = sink.opens src
sink_stage of_sink.OpenSaved = sink.open_saved
sink_stage (of_sink.Pumps wanted) = sink.pumps wanted
sink_stage (of_sink.Asked pump) = sink.asked pump.wanted pump.taken
sink_stage (of_sink.ItemSaved wanted taken) = sink.item_saved wanted taken
sink_stage of_sink.Reads = sink.reads

-- of a process of any of them
abbrev pub stage_of : Stage → natives.Stage
stage_of (stage.OfLines s) = natives.in_lines (lines_stage s)
stage_of (stage.OfFilter s) = natives.in_filter (filter_stage s)
stage_of (stage.OfSink s) = natives.in_sink (sink_stage s)

-- 3. What is held, and what a turn comes to

-- what a filter holds
abbrev pub filter_of : Filter → filters.Filter
filter_of f = record { src = f.src; arg = f.arg; got = f.got; made = f.made; last = datum f.last; saved = f.saved }

-- what a filter's turn comes to
abbrev pub moved_of : Moved → filters.Moved
moved_of m = (filters.values_of (filter_of m.filter), filter_stage m.stage, m.effect)

-- what a Sink holds
abbrev pub drain_of : Drain → sink.Drain
drain_of d = record { src = d.src; items = d.items; saved = d.saved }

-- what a Sink's turn comes to
abbrev pub pumped_of : Pumped → sink.Moved
pumped_of p = (sink.values_of (drain_of p.drain), sink_stage p.stage, p.effect)

-- 4. What the stage before answered

-- the code's word for it
abbrev pub came_of : Heard → streams.Came
came_of (heard.Item t) = streams.an_item t
came_of heard.End = streams.the_end
came_of heard.Nothing = streams.nothing

-- a code and an item
abbrev pub came_as : Datum → Datum → streams.Came
came_as (number (pos zero)) (text t) = streams.an_item t
came_as (number (pos (suc zero))) (text t) = streams.the_end
came_as _ _ = streams.nothing

-- the two of a row of two
abbrev pub pair_in : List Datum → Option (Datum × Datum)
pair_in (a ∷ b ∷ []) = Some (a, b)
pair_in _ = None

-- two values of the code
abbrev pub pair_of : Option (Value × Value) → Option (Datum × Datum)
pair_of None = None
pair_of (Some p) = Some (datum p.0, datum p.1)
