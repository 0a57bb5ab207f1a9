-- Which type a kind is, what is left of a process, and what an operation asks of a call.
use Rattle.std.specs.Prelude.{ℕ, cond, not, List, Result, Ok, Err, slice_get}
use Rattle.capability.specs.Rights.{is_within}
use Rattle.capability.specs.declared.Rights.{Rights}
use Rattle.eden_value.specs.Datum.{Datum}
use Rattle.eden_value.specs.declared.status.Status.{Status}
use Rattle.eden_value.specs.declared.status.Status.TheVariants as status
use Rattle.eden_model.specs.Map.{with_item}
use Rattle.epl_syntax.specs.declared.types.Native.TheVariants.{Cell}
use Rattle.epl_syntax.specs.declared.effect.Effect.{Effect}
use Rattle.epl_syntax.specs.Rules.OfTypes.{TypeList, declared_at}
use Rattle.epl_syntax.specs.Tree.{type_tree}
use Rattle.epl_syntax.specs.Edentype.{Edentype, native, declared}
use Rattle.epl_syntax.specs.Kinds.{have_shapes}
use Rattle.epl_syntax.specs.Cell as cell
use Rattle.epl_syntax.specs.Natives.{in_cell}
use Rattle.epl_syntax.specs.Turns.{Left, nothing_left}
use Rattle.epl_syntax.specs.Meaning.{Rest as Meant, of_native, of_declared, Turned, Operation, operation_of, types_in}
use Rattle.directory_eject.specs.Stages as directories
use Rattle.epl_run.specs.Blocks.{left_of}
use Rattle.epl_run.specs.declared.rest.Rest.{Rest as LeftToDo}
use Rattle.transput.specs.View as streams
use Rattle.edentypes.specs.declared.Kind.{Kind}
use Rattle.edentypes.specs.declared.Kind.TheVariants as kinds
use Rattle.edentypes.specs.declared.Rest.{Rest}
use Rattle.edentypes.specs.declared.Rest.TheVariants as rest
use Rattle.edentypes.specs.declared.cell.CellStage.{CellStage}
use Rattle.edentypes.specs.declared.cell.CellStage.TheVariants.{Sets, Gets, Saves, Saved, Sleeps, Kills, Killed}
use Rattle.edentypes.specs.declared.operations.Fit.{Fit}
use Rattle.edentypes.specs.declared.operations.Fit.TheVariants.{Fits, Misfits}

-- the type at a place among those of the script; no Eject has a place past them
abbrev pub type_at : TypeList → ℕ → Edentype
type_at ts place = with_item (slice_get (types_in ts) place) (λ t. t) (native Cell)

-- The type of a kind: a native one whatever the types of the script, or the one that stands at this place among them. No Eject has a
-- place at which no declared type stands.
abbrev pub kind_in : TypeList → Kind → Edentype
kind_in ts (kinds.Native n) = native n
kind_in ts (kinds.Declared place) = with_item (declared_at ts place) (λ p. declared (type_tree p)) (native Cell)

-- the stage that one of the code is
abbrev pub stage_of : CellStage → cell.Stage
stage_of (Sets n) = cell.sets n
stage_of Gets = cell.gets
stage_of Saves = cell.saves
stage_of Saved = cell.saved
stage_of Sleeps = cell.sleeps
stage_of Kills = cell.kills
stage_of Killed = cell.killed

-- what is left to do of a process of a declared type, by its tree; of a native type it is never looked at
abbrev pub left_in : Edentype → LeftToDo → Left
left_in (declared t) left = left_of t left
left_in (native n) left = nothing_left

-- what the code has left to do of a process of this type
abbrev pub rest_of : Edentype → Rest → Meant
rest_of t (rest.Cell stage) = of_native (in_cell (stage_of stage))
rest_of t (rest.Directory stage) = of_native (directories.stage_of stage)
rest_of t (rest.Stream stage) = of_native (streams.stage_of stage)
rest_of t (rest.Declared left) = of_declared (left_in t left.value)

-- what a turn came to
abbrev pub turned_of : List Datum → Meant → Effect → Turned
turned_of vars rest effect = record { vars = vars; rest = rest; effect = effect }

-- the class of an operation, or what is wrong with a call
abbrev pub result_of : Fit → Result ℕ Status
result_of (Fits class) = Ok class
result_of (Misfits why) = Err why

-- the class of an operation for a call with these rights and arguments, or what is wrong with the call
abbrev pub fit_of : Rights → List Datum → Operation → Result ℕ Status
fit_of rights args o = cond (not (is_within (record { bits = o.needs }) rights)) (Err status.NoRight)
    (cond (not (have_shapes args o.params)) (Err status.BadArguments) (Ok o.class))

-- the same of a type, by the name of the operation
abbrev pub fit_in : Edentype → Rights → List ℕ → List Datum → Result ℕ Status
fit_in t rights name args = with_item (operation_of t name) (fit_of rights args) (Err status.NoOperation)
