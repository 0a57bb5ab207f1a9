-- What is left of a body, and what comes of the first step of it.
use Rattle.std.specs.Prelude.{ℕ, ◌+◌, cond, List, [], ◌∷◌, ◌++◌, map, Some, Result, Ok, Err}
use Rattle.std.specs.List.{position}
use Rattle.capability.specs.declared.Cap.{Cap}
use Rattle.capability.specs.Capability.{full}
use Rattle.eden_value.specs.Datum.{Datum, truth, cap}
use Rattle.eden_model.specs.Map.{with_item, same_text}
use Rattle.epl_syntax.specs.declared.effect.Effect.{Effect}
use Rattle.epl_syntax.specs.declared.effect.Effect.TheVariants as effect
use Rattle.epl_syntax.specs.declared.effect.FaultCause.{FaultCause}
use Rattle.epl_syntax.specs.declared.effect.FaultCause.TheVariants.{BadKind, NoCapability}
use Rattle.epl_syntax.specs.declared.tree.Target.{Target}
use Rattle.epl_syntax.specs.declared.tree.Target.TheVariants as target
use Rattle.epl_syntax.specs.Tree.{TypeTree, Statement, Assign, If, While, With, Wait, Signal, Yield, Deactivate, Checkpoint, Destroy}
use Rattle.epl_syntax.specs.Tree.{Create, Invoke, Return, Statements, no_statements, statement_and, in_order}
use Rattle.epl_syntax.specs.Operators.{found}
use Rattle.epl_syntax.specs.Memory.{Memory, value_as, set}
use Rattle.epl_syntax.specs.Expressions.{value_of, values_of}

-- a step: a statement, or the end of a `with`, which leaves the monitor of this number
pub data Step : Type 0 where
  does : Statement → Step
  leaves : ℕ → Step

-- the variables that the answer of an effect sets
pub data Awaited : Type 0 where
  -- none
  no_answer : Awaited
  -- of a checkpoint or a destroy: that of its status
  a_code : (status : List ℕ) → Awaited
  -- of a creation: those of its status and of the capability
  a_creation : (status gives : List ℕ) → Awaited
  -- of an invocation: that of its status and, where that is 0, those of the results
  a_reply : (status : List ℕ) (gives : List (List ℕ)) → Awaited

-- what comes of a step: it goes on with other values and another rest, or the turn ends
pub data Came : Type 0 where
  goes_on : Memory → List Step → Came
  ends : Effect → Memory → Awaited → List Step → Came

-- the statements of a block, as steps
abbrev pub steps : Statements → List Step
steps no_statements = []
steps (statement_and s ss) = does s ∷ steps ss

-- the monitor of this name, counted from 1
abbrev pub monitor_number : TypeTree → List ℕ → ℕ
monitor_number t name = with_item (position (λ m. same_text m.text name) t.monitors) (λ i. i + 1) 0

-- the condition of this name, counted from 0
abbrev pub condition_number : TypeTree → List ℕ → ℕ
condition_number t name = with_item (position (λ c. same_text c.name.text name) t.conditions) (λ i. i) 0

-- the turn ends, and no answer is awaited
abbrev pub ends_in : Effect → Memory → List Step → Came
ends_in e m rest = ends e m no_answer rest

-- the process faults, and nothing is left
abbrev pub faults : Memory → FaultCause → Came
faults m cause = ends_in (effect.Fault cause) m []

-- f of what was found, or the fault
abbrev pub with_found : {X : Type 0} → Memory → Result X FaultCause → (X → Came) → Came
with_found m (Ok x) f = f x
with_found m (Err cause) f = faults m cause

-- the steps of a block before others, by the value of a test
abbrev pub tested : Memory → Datum → List Step → List Step → Came
tested m (truth b) so otherwise = goes_on m (cond b so otherwise)
tested m _ so otherwise = faults m BadKind

-- the capability in a value, if it is a present one
abbrev pub present : Datum → Result Cap FaultCause
present (cap (Some c)) = Ok c
present _ = Err NoCapability

-- whom an invocation is sent to: what a variable holds, or the Eject itself
abbrev pub target_of : Memory → Target → Result Cap FaultCause
target_of m (target.Name name) = found (value_as m name.text) present
target_of m (target.Me place) = Ok (full m.me)

-- One step, before the rest. `while c do b end` goes on as `if c then b; while c do b end end`; `with M do b end` is the effect that
-- locks M, then b, then the effect that leaves M. An invocation looks at its target first.
abbrev pub came_of : TypeTree → Memory → Step → List Step → Came
came_of t m (leaves k) rest = ends_in (effect.Leave k) m rest
came_of t m (does (Assign name value)) rest = with_found m (value_of m value) (λ d. goes_on (set name.text d m) rest)
came_of t m (does (If test so otherwise place)) rest =
    with_found m (value_of m test) (λ d. tested m d (steps so ++ rest) (steps otherwise ++ rest))
came_of t m (does (While test body place)) rest =
    with_found m (value_of m test) (λ d. tested m d (steps body ++ does (While test body place) ∷ rest) rest)
came_of t m (does (With monitor body place)) rest =
    ends_in (effect.Lock (monitor_number t monitor.text)) m (steps body ++ leaves (monitor_number t monitor.text) ∷ rest)
came_of t m (does (Wait condition place)) rest = ends_in (effect.Wait (condition_number t condition.text)) m rest
came_of t m (does (Signal condition place)) rest = ends_in (effect.Signal (condition_number t condition.text)) m rest
came_of t m (does (Yield place)) rest = ends_in effect.Yield m rest
came_of t m (does (Deactivate place)) rest = ends_in effect.Deactivate m rest
came_of t m (does (Checkpoint status place)) rest = ends effect.Checkpoint m (a_code status.text) rest
came_of t m (does (Destroy status place)) rest = ends effect.Destroy m (a_code status.text) rest
came_of t m (does (Create type_name status gives place)) rest =
    ends (effect.Create type_name.text) m (a_creation status.text gives.text) rest
came_of t m (does (Invoke to operation args status gives place)) rest =
    with_found m (target_of m to) (λ c. with_found m (values_of m (in_order args)) (λ ds.
    ends (effect.Invoke c operation.text ds) m (a_reply status.text (map (λ n. n.text) gives)) rest))
came_of t m (does (Return results place)) rest = with_found m (values_of m (in_order results)) (λ ds. ends_in (effect.Return ds) m rest)
