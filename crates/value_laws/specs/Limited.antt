-- Values within the limits: texts of at most 1,024 printable bytes, lists of at most 256 items and at most 4 in one another, integers of
-- 64 bits with a sign, capabilities of Ejects. No turn of a type leaves others, where it is given none and its constants are within them.
use Rattle.std.specs.Prelude.{◌≡◌, ◌≢◌, ℕ, ◌+◌, Bool, true, false, List, Some, length, int_le, FitsSigned}
use Rattle.std.specs.Int.{w64}
use Rattle.std.specs.List.{AllByRecursion}
use Rattle.capability.specs.Capability.{full}
use Rattle.capability.specs.declared.Uid.{Uid}
use Rattle.eden_value.specs.Datum.{Datum, cap, list, data_of}
use Rattle.eden_value.specs.Limits.{IsText, IsValue}
use Rattle.eden_value.specs.Range.{InRange}
use Rattle.eden_value.specs.declared.value.TheConstants.{DEPTH_LIMIT, LIST_LIMIT}
use Rattle.eden_codec.specs.declared.rep.Rep.{Rep}
use Rattle.epl_syntax.specs.Cell as cell
use Rattle.epl_syntax.specs.Constants.{StatementFits, TreeFits}
use Rattle.epl_syntax.specs.Directory as directory
use Rattle.epl_syntax.specs.Edentype.{Edentype, native, declared as declared_type}
use Rattle.epl_syntax.specs.Filters as filters
use Rattle.epl_syntax.specs.Kinds.{have_shapes}
use Rattle.epl_syntax.specs.Lines as lines
use Rattle.epl_syntax.specs.Meaning.{Rest, of_native, of_declared, Turned, turn, begin, declared, first_values, values_from, durable_of}
use Rattle.epl_syntax.specs.Meaning.{durable_from, operation_of}
use Rattle.epl_syntax.specs.Natives.{Stage, in_cell, in_directory, in_lines, in_filter, in_sink, rule_of}
use Rattle.epl_syntax.specs.Operators.{greatest}
use Rattle.epl_syntax.specs.Outline.{Operation}
use Rattle.epl_syntax.specs.Sink as sink
use Rattle.epl_syntax.specs.Statements.{Step, does, leaves}
use Rattle.epl_syntax.specs.Turns.{values_in}
use Rattle.epl_syntax.specs.declared.effect.Answer.{Answer}
use Rattle.epl_syntax.specs.declared.effect.Answer.TheVariants as answer
use Rattle.epl_syntax.specs.declared.effect.Effect.{Effect}
use Rattle.epl_syntax.specs.declared.effect.Effect.TheVariants as effect
use Rattle.epl_syntax.specs.declared.types.Native.{Native}
use Rattle.epl_syntax.specs.declared.types.Native.TheVariants as native_type

-- 1. Values

-- a value within the limits
abbrev pub IsLimited : Datum → Type 0
IsLimited d = IsValue DEPTH_LIMIT d × InRange d

-- values within the limits
abbrev pub AreLimited : List Datum → Type 0
AreLimited ds = AllByRecursion IsLimited ds

-- the capability of an Eject with all rights is within the limits: its node is one of eight, its epoch and its serial are from 1 on and
-- have 32 bits
abbrev pub IsLimitedUid : Uid → Type 0
IsLimitedUid u = IsLimited (cap (Some (full u)))

-- 2. Types

-- the constants of a type are within the limits; a native type has none
abbrev pub TypeFits : Edentype → Type 0
TypeFits (native n) = Unit {0}
TypeFits (declared_type t) = TreeFits t

-- the constants of a step
abbrev pub StepFits : Step → Type 0
StepFits (does s) = StatementFits s
StepFits (leaves k) = Unit {0}

-- 3. What is left to do

-- of a Cell: the number that it sets
abbrev pub CellFits : cell.Stage → Type 0
CellFits (cell.sets n) = FitsSigned w64 n
CellFits _ = Unit {0}

-- of a Directory: the name and the capability that it adds
abbrev pub DirectoryFits : directory.Stage → Type 0
DirectoryFits (directory.adds name held) = IsText name × IsLimited (cap held)
DirectoryFits _ = Unit {0}

-- of a Lines: the items that it takes, which make a list
abbrev pub LinesFit : lines.Stage → Type 0
LinesFit (lines.fills items) = IsLimited (list (data_of items))
LinesFit _ = Unit {0}

-- of a filter whose argument is so many values: the stage before it, and the argument
abbrev pub FilterFits : ℕ → filters.Stage → Type 0
FilterFits n (filters.opens args) = AreLimited args × (length args ≡ n + 1)
FilterFits n _ = Unit {0}

-- of a Sink: the stage before it
abbrev pub SinkFits : sink.Stage → Type 0
SinkFits (sink.opens src) = IsLimited (cap src)
SinkFits _ = Unit {0}

-- of a native type; it is of this very type
abbrev pub StageFits : Native → Stage → Type 0
StageFits native_type.Cell (in_cell stage) = CellFits stage
StageFits native_type.Directory (in_directory stage) = DirectoryFits stage
StageFits native_type.Lines (in_lines stage) = LinesFit stage
StageFits native_type.Take (in_filter stage) = FilterFits (length (rule_of native_type.Take).arg) stage
StageFits native_type.Skip (in_filter stage) = FilterFits (length (rule_of native_type.Skip).arg) stage
StageFits native_type.Only (in_filter stage) = FilterFits (length (rule_of native_type.Only).arg) stage
StageFits native_type.Number (in_filter stage) = FilterFits (length (rule_of native_type.Number).arg) stage
StageFits native_type.Sink (in_sink stage) = SinkFits stage
StageFits _ _ = ⊥

-- of any type: of a declared one the constants of the steps that are left, and the values of the process's own variables
abbrev pub RestFits : Edentype → Rest → Type 0
RestFits (native n) (of_native stage) = StageFits n stage
RestFits (declared_type t) (of_declared left) = AllByRecursion StepFits left.steps × AreLimited (values_in left.own)
RestFits _ _ = ⊥

-- 4. What else native types keep to

-- a filter with this rule has handed on no more items than it took in
pub record CountsFit (r : filters.Rule) (vars : List Datum) : Type 0 where
  -- it has a value for each of its variables
  pub count : length vars ≡ length r.arg + 5
  -- `made` is at most `got`
  pub counts : int_le (filters.filter r vars).made (filters.filter r vars).got ≡ true

-- the values of the variables: a filter's counts are such, and a Directory has as many capabilities as names
abbrev pub VarsFit : Edentype → List Datum → Type 0
VarsFit (native native_type.Directory) vars = length (directory.entries vars).names ≡ length (directory.entries vars).held
VarsFit (native native_type.Take) vars = CountsFit (rule_of native_type.Take) vars
VarsFit (native native_type.Skip) vars = CountsFit (rule_of native_type.Skip) vars
VarsFit (native native_type.Only) vars = CountsFit (rule_of native_type.Only) vars
VarsFit (native native_type.Number) vars = CountsFit (rule_of native_type.Number) vars
VarsFit _ vars = Unit {0}

-- while a filter waits for an item, it has not yet taken in as many as a number can tell
abbrev pub FilterHasRoom : filters.Rule → List Datum → filters.Stage → Type 0
FilterHasRoom r vars filters.asked = (filters.filter r vars).got ≢ greatest
FilterHasRoom r vars _ = Unit {0}

-- while a Sink waits for one, its list is not full
abbrev pub SinkHasRoom : List Datum → sink.Stage → Type 0
SinkHasRoom vars (sink.asked wanted taken) = length (sink.drain vars).items ≢ LIST_LIMIT
SinkHasRoom vars _ = Unit {0}

-- a native type with these variables and this left to do has room for the item for which it waits, if it waits for one
abbrev pub StageHasRoom : Native → List Datum → Stage → Type 0
StageHasRoom n vars (in_filter stage) = FilterHasRoom (rule_of n) vars stage
StageHasRoom n vars (in_sink stage) = SinkHasRoom vars stage
StageHasRoom n vars _ = Unit {0}

-- the same of any type; of a declared one nothing is asked
abbrev pub HasRoom : Edentype → List Datum → Rest → Type 0
HasRoom (native n) vars (of_native stage) = StageHasRoom n vars stage
HasRoom _ vars rest = Unit {0}

-- 5. Answers and effects

-- the values that a process is told
abbrev pub AnswerFits : Answer → Type 0
AnswerFits (answer.Reply status results) = AreLimited results
AnswerFits (answer.Created status c) = IsLimited (cap c)
AnswerFits _ = Unit {0}

-- those of an effect, with the capability by which it makes a call
abbrev pub EffectFits : Effect → Type 0
EffectFits (effect.Invoke target operation args) = IsLimited (cap (Some target)) × AreLimited args
EffectFits (effect.Return results) = AreLimited results
EffectFits _ = Unit {0}

-- whether the process may go on behind an effect: not behind a return
abbrev pub goes_on : Effect → Bool
goes_on (effect.Return results) = false
goes_on _ = true

-- 6. What a turn is given and leaves

-- what a turn of this type is given, of the Eject `u`, is within the limits
pub record IsGivenLimited (t : Edentype) (values : List Datum) (left : Rest) (told : Answer) (u : Uid) : Type 0 where
  -- the constants of the type
  pub constants : TypeFits t
  -- the values of the variables
  pub vars : AreLimited values
  -- which keep to what those of the type keep to
  pub fits : VarsFit t values
  -- what is left to do
  pub rest : RestFits t left
  -- for which there is room
  pub room : HasRoom t values left
  -- what the process is told
  pub answer : AnswerFits told
  -- the Eject's own capability
  pub own : IsLimitedUid u

-- and so is what it leaves
pub record IsLeftLimited (t : Edentype) (x : Turned) : Type 0 where
  -- the values of the variables
  pub vars : AreLimited x.vars
  -- which keep to what those of the type keep to
  pub fits : VarsFit t x.vars
  -- what is left to do
  pub rest : RestFits t x.rest
  -- for which there is room, where the process goes on
  pub room : goes_on x.effect ≡ true → HasRoom t x.vars x.rest
  -- the effect
  pub effect : EffectFits x.effect

-- 7. The laws of types

-- a turn leaves only values within the limits, where it is given only such
abbrev pub TurnKeepsLimits : Type 0
TurnKeepsLimits = (t : Edentype) (vars : List Datum) (rest : Rest) (told : Answer) (me : Uid)
    → IsGivenLimited t vars rest told me → IsLeftLimited t (turn t vars rest told me)

-- an operation that the type has begins with values within the limits, where its arguments are so and it takes them
abbrev pub BeginKeepsLimits : Type 0
BeginKeepsLimits = (t : Edentype) (operation : List ℕ) (args : List Datum) (o : Operation) (vars : List Datum)
    → TypeFits t → operation_of t operation ≡ Some o → have_shapes args o.params ≡ true → AreLimited args
    → RestFits t (begin t operation args) × HasRoom t vars (begin t operation args)

-- so do the declared processes of a type
abbrev pub DeclaredAreLimited : Type 0
DeclaredAreLimited = (t : Edentype) (vars : List Datum) → TypeFits t → AllByRecursion (λ r. RestFits t r × HasRoom t vars r) (declared t)

-- a new Eject has values within the limits
abbrev pub FirstAreLimited : Type 0
FirstAreLimited = (t : Edentype) → TypeFits t → AreLimited (first_values t) × VarsFit t (first_values t)

-- a checkpoint keeps values within the limits
abbrev pub DurableAreLimited : Type 0
DurableAreLimited = (t : Edentype) (vars : List Datum) → AreLimited vars → AreLimited (durable_of t vars)

-- an Eject that starts, by an upgrade or not, has values within the limits, where those of its representation are, and its own capability
abbrev pub StartKeepsLimits : Type 0
StartKeepsLimits = (t : Edentype) (rep : Rep) (me : Uid) (durable : List Datum)
    → TypeFits t → durable_from t rep me ≡ Some durable → AreLimited rep.values → IsLimitedUid me
    → AreLimited (values_from t durable) × VarsFit t (values_from t durable)
