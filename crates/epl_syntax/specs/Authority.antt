-- Authority: a turn makes no capabilities. Each one in what it leaves, or in its effect, is below one that it was given.
use Rattle.std.specs.Prelude.{◌≡◌, ◌⊎◌, ℕ, List, [], ◌∷◌, Some}
use Rattle.std.specs.List.{flat_map}
use Rattle.capability.specs.declared.Uid.{Uid}
use Rattle.capability.specs.declared.Cap.{Cap}
use Rattle.capability.specs.Capability.{full, IsBelow}
use Rattle.eden_value.specs.Datum.{Datum, cap}
use Rattle.eden_value.specs.Caps.{caps, caps_of}
use Rattle.eden_value.specs.declared.status.Status.{Status}
use Rattle.eden_value.specs.declared.status.Status.TheVariants as status
use Rattle.eden_codec.specs.declared.rep.Rep.{Rep}
use Rattle.epl_syntax.specs.declared.effect.Answer.{Answer}
use Rattle.epl_syntax.specs.declared.effect.Answer.TheVariants as answer
use Rattle.epl_syntax.specs.declared.effect.Effect.{Effect}
use Rattle.epl_syntax.specs.declared.effect.Effect.TheVariants as effect
use Rattle.epl_syntax.specs.Directory as directory
use Rattle.epl_syntax.specs.Lines as lines
use Rattle.epl_syntax.specs.Filters as filters
use Rattle.epl_syntax.specs.Sink as sink
use Rattle.epl_syntax.specs.Natives.{Stage, in_cell, in_directory, in_lines, in_filter, in_sink}
use Rattle.epl_syntax.specs.Turns.{values_in}
use Rattle.epl_syntax.specs.Meaning.{Edentype, Rest, of_native, of_declared, Turned, turn, begin, declared, first_values, values_from}
use Rattle.epl_syntax.specs.Meaning.{durable_of, durable_from}

-- the capability is below one of these
abbrev pub IsBelowOne : Cap → List Cap → Type 0
IsBelowOne c [] = ⊥
IsBelowOne c (d ∷ ds) = IsBelow c d ⊎ IsBelowOne c ds

-- each capability of the first list is below one of the second
abbrev pub AllBelow : List Cap → List Cap → Type 0
AllBelow [] ds = Unit {0}
AllBelow (c ∷ cs) ds = IsBelowOne c ds × AllBelow cs ds

-- ---- the capabilities in what is left to do
-- of a Directory
abbrev pub directory_caps : directory.Stage → List Cap
directory_caps (directory.adds name held) = caps (cap held)
directory_caps _ = []

-- of a Lines
abbrev pub lines_caps : lines.Stage → List Cap
lines_caps (lines.fills items) = caps_of items
lines_caps _ = []

-- of a filter
abbrev pub filter_caps : filters.Stage → List Cap
filter_caps (filters.opens args) = caps_of args
filter_caps _ = []

-- of a Sink
abbrev pub sink_caps : sink.Stage → List Cap
sink_caps (sink.opens src) = caps (cap src)
sink_caps _ = []

-- of a native type; a Cell's rest has none
abbrev pub stage_caps : Stage → List Cap
stage_caps (in_cell stage) = []
stage_caps (in_directory stage) = directory_caps stage
stage_caps (in_lines stage) = lines_caps stage
stage_caps (in_filter stage) = filter_caps stage
stage_caps (in_sink stage) = sink_caps stage

-- a statement holds none: no constant is a present capability
abbrev pub rest_caps : Rest → List Cap
rest_caps (of_native stage) = stage_caps stage
rest_caps (of_declared left) = caps_of (values_in left.own)

-- ---- the capabilities in an answer and in an effect
-- of a reply: those of the results; a call that did not succeed gives none
abbrev pub reply_caps : Status → List Datum → List Cap
reply_caps status.Ok results = caps_of results
reply_caps _ results = []

-- of an answer: those of a reply, or the one of a new Eject
abbrev pub answer_caps : Answer → List Cap
answer_caps (answer.Reply status results) = reply_caps status results
answer_caps (answer.Created status c) = caps (cap c)
answer_caps _ = []

-- of an effect: that of the target, and those of the arguments or the results
abbrev pub effect_caps : Effect → List Cap
effect_caps (effect.Invoke target operation args) = target ∷ caps_of args
effect_caps (effect.Return results) = caps_of results
effect_caps _ = []

-- ---- the laws
-- what a turn is given is below what is held: the values of the variables, what is left to do, the answer,
-- and the Eject's own capability
pub record AreGiven (held : List Cap) (values : List Datum) (left : Rest) (told : Answer) (u : Uid) : Type 0 where
  pub vars : AllBelow (caps_of values) held
  pub rest : AllBelow (rest_caps left) held
  pub answer : AllBelow (answer_caps told) held
  pub own : IsBelowOne (full u) held

-- and so is what it leaves: the values of the variables, what is left to do, and the effect
pub record AreLeft (held : List Cap) (t : Turned) : Type 0 where
  pub vars : AllBelow (caps_of t.vars) held
  pub rest : AllBelow (rest_caps t.rest) held
  pub effect : AllBelow (effect_caps t.effect) held

-- whatever is held, a turn leaves only what is below it, where it is given only what is below it
abbrev pub TurnKeepsCaps : Type 0
TurnKeepsCaps = (held : List Cap) (t : Edentype) (vars : List Datum) (rest : Rest) (told : Answer) (me : Uid)
    → AreGiven held vars rest told me → AreLeft held (turn t vars rest told me)

-- an operation begins with the capabilities of its arguments
abbrev pub BeginKeepsCaps : Type 0
BeginKeepsCaps = (held : List Cap) (t : Edentype) (operation : List ℕ) (args : List Datum)
    → AllBelow (caps_of args) held → AllBelow (rest_caps (begin t operation args)) held

-- the declared processes of a type begin with none
abbrev pub DeclaredHaveNone : Type 0
DeclaredHaveNone = (t : Edentype) → flat_map rest_caps (declared t) ≡ []

-- a new Eject has none
abbrev pub FirstHaveNone : Type 0
FirstHaveNone = (t : Edentype) → caps_of (first_values t) ≡ []

-- a checkpoint keeps no others than the values have
abbrev pub DurableKeepCaps : Type 0
DurableKeepCaps = (held : List Cap) (t : Edentype) (vars : List Datum)
    → AllBelow (caps_of vars) held → AllBelow (caps_of (durable_of t vars)) held

-- an Eject that starts, by an upgrade or not, has only those of its representation and its own
abbrev pub StartKeepsCaps : Type 0
StartKeepsCaps = (held : List Cap) (t : Edentype) (rep : Rep) (me : Uid) (durable : List Datum)
    → durable_from t rep me ≡ Some durable → AllBelow (caps_of rep.values) held → IsBelowOne (full me) held
    → AllBelow (caps_of (values_from t durable)) held
