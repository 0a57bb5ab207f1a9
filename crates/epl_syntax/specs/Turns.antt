-- A turn of a process of a declared type: the answer of the last effect is taken, and then steps are made until the next effect.
use Rattle.std.specs.Prelude.{ℕ, zero, suc, pos, Bool, true, false, cond, List, [], ◌∷◌, ◌++◌, map, Result, Ok, Err, if◌then◌else◌}
use Rattle.std.specs.List.{find, filter_map}
use Rattle.std.specs.Option.{option_map}
use Rattle.capability.specs.declared.Uid.{Uid}
use Rattle.eden_value.specs.Datum.{Datum, number, cap}
use Rattle.eden_value.specs.declared.status.Status.{Status}
use Rattle.eden_value.specs.declared.status.Status.TheVariants as status
use Rattle.eden_value.specs.Status.{status_number}
use Rattle.eden_value.specs.Shape.{Shape}
use Rattle.eden_model.specs.Map.{with_item, same_text}
use Rattle.epl_syntax.specs.declared.effect.Answer.{Answer}
use Rattle.epl_syntax.specs.declared.effect.Answer.TheVariants as answer
use Rattle.epl_syntax.specs.declared.effect.Effect.{Effect}
use Rattle.epl_syntax.specs.declared.effect.Effect.TheVariants as effect
use Rattle.epl_syntax.specs.declared.effect.FaultCause.{FaultCause}
use Rattle.epl_syntax.specs.declared.effect.FaultCause.TheVariants.{BadKind, NoReturn, Budget}
use Rattle.epl_syntax.specs.Kinds.{have_shapes}
use Rattle.epl_syntax.specs.Tree.{TypeTree, Operation, Process}
use Rattle.epl_syntax.specs.Memory.{Held, Memory, held_as, set, set_each, variables, arguments, locals}
use Rattle.epl_syntax.specs.Statements.{Step, does, Awaited, no_answer, a_code, a_creation, a_reply, Came, goes_on, ends, ends_in}
use Rattle.epl_syntax.specs.Statements.{faults, came_of}

-- what is left to do of a process, with its own variables
pub record Left : Type 0 where
  pub steps : List Step
  pub own : List Held
  pub awaits : Awaited
  -- an operation has to return, and a declared process just ends
  pub returns : Bool

-- ---- 1. The answer of the last effect

-- a status as its number
abbrev pub code : Status → Datum
code s = number (pos (status_number s))

-- the kinds of the variables of these names
abbrev pub kinds_as : Memory → List (List ℕ) → List Shape
kinds_as m names = filter_map (λ name. option_map (λ v. v.kind) (held_as m name)) names

-- The results of an invocation that was answered so: where the status is 0, as many as there are variables that take them,
-- each of its variable's kind.
abbrev pub taken : List (List ℕ) → Status → List Datum → Memory → Result Memory FaultCause
taken gives status.Ok results m = if have_shapes results (kinds_as m gives) then Ok (set_each gives results m) else Err BadKind
taken gives _ results m = Ok m

-- The variables that the answer sets have its values. An answer that is not awaited sets none.
abbrev pub told : Awaited → Answer → Memory → Result Memory FaultCause
told (a_code x) (answer.Code s) m = Ok (set x (code s) m)
told (a_creation x y) (answer.Created s c) m = Ok (set y (cap c) (set x (code s) m))
told (a_reply x gives) (answer.Reply s results) m = taken gives s results (set x (code s) m)
told _ _ m = Ok m

-- ---- 2. The steps

-- a step that goes on is followed by others
abbrev pub onward : Came → (Memory → List Step → Came) → Came
onward (goes_on m rest) go = go m rest
onward (ends e m awaits rest) go = ends e m awaits rest

-- At most so many steps are made. Each assignment, each test, and each effect of a statement or of the end of a `with` is one.
unfoldable pub run : ℕ → TypeTree → Bool → Memory → List Step → Came
run n t returns m [] = cond returns (faults m NoReturn) (ends_in effect.End m [])
run zero t returns m (s ∷ rest) = faults m Budget
run (suc n) t returns m (s ∷ rest) = onward (came_of t m s rest) (run n t returns)

-- ---- 3. The turn

-- how many steps a turn may make
abbrev pub budget : ℕ
budget = 10000

-- what a process of this Eject sees
abbrev pub seen_by : TypeTree → List Datum → Left → Uid → Memory
seen_by t vars left me = record { own = left.own; shared = variables t.vars vars; me = me }

-- the values of variables, in order
abbrev pub values_in : List Held → List Datum
values_in vs = map (λ v. v.value) vs

-- the steps are made where the answer could be taken
abbrev pub came_to : TypeTree → Left → Memory → Result Memory FaultCause → Came
came_to t left before (Ok m) = run budget t left.returns m left.steps
came_to t left before (Err cause) = faults before cause

-- the values of the Eject's variables, what is left, and the effect; a run never just goes on
abbrev pub as_turn : Bool → Came → List Datum × Left × Effect
as_turn returns (ends e m awaits rest) = (values_in m.shared, record { steps = rest; own = m.own; awaits = awaits; returns = returns }, e)
as_turn returns (goes_on m rest) =
    (values_in m.shared, record { steps = rest; own = m.own; awaits = no_answer; returns = returns }, effect.Yield)

-- a turn of a process: from the values of the Eject's variables, what is left to do and the answer
-- to the values after it, what is left then, and the effect
abbrev pub process_turn : TypeTree → List Datum → Left → Answer → Uid → List Datum × Left × Effect
process_turn t vars left answer me = let m = seen_by t vars left me in as_turn left.returns (came_to t left m (told left.awaits answer m))

-- ---- 4. How processes begin

-- what is left to do of an operation with these arguments at its beginning
abbrev pub left_of : Operation → List Datum → Left
left_of o args = record { steps = map does o.body; own = arguments o.params args ++ locals o.locals; awaits = no_answer; returns = true }

-- where there is no operation of this name, nothing is left to do
abbrev pub nothing_left : Left
nothing_left = record { steps = []; own = []; awaits = no_answer; returns = false }

-- the same of the operation of this name, if there is one
abbrev pub operation_left : TypeTree → List ℕ → List Datum → Left
operation_left t name args = with_item (find (λ o. same_text o.name.text name) t.operations) (λ o. left_of o args) nothing_left

-- what is left to do of a declared process at its beginning
abbrev pub process_left : Process → Left
process_left p = record { steps = map does p.body; own = locals p.locals; awaits = no_answer; returns = false }
