-- Blocks of steps, and what is left of them at the frames of a process.
use Rattle.std.specs.Prelude.{◌≡◌, ℕ, zero, suc, ◌+◌, ◌^◌, ◌<◌, Bool, true, false, List, [], ◌∷◌, ◌++◌, length, map, drop, slice_get}
use Rattle.std.specs.Prelude.{Option, None, Some, Result, Ok, Err}
use Rattle.std.specs.Borrow.{Bor}
use Rattle.eden_model.specs.Map.{with_item}
use Rattle.epl_syntax.specs.declared.tree.Program.{Program}
use Rattle.epl_syntax.specs.declared.tree.Stmt.{Stmt}
use Rattle.epl_syntax.specs.Tree.{TypeTree, Statement, statement, If, While, With, Checkpoint, Destroy, Create, Invoke}
use Rattle.epl_syntax.specs.Statements.{Came as Outcome, ends, faults, Step, does, leaves, steps}
use Rattle.epl_syntax.specs.Statements.{monitor_number, Awaited, no_answer, a_code, a_creation, a_reply}
use Rattle.epl_syntax.specs.Memory.{Memory}
use Rattle.epl_syntax.specs.Turns.{Left, run, budget}
use Rattle.epl_values.specs.declared.variables.Owner.{Owner}
use Rattle.epl_values.specs.declared.variables.Owner.TheVariants.{Operation, Process}
use Rattle.epl_values.specs.Variables.{own_of, memory}
use Rattle.epl_values.specs.declared.variables.Variables.{Variables}
use Rattle.epl_syntax.specs.declared.effect.Effect.{Effect}
use Rattle.epl_syntax.specs.declared.effect.Effect.TheVariants as effect
use Rattle.epl_syntax.specs.declared.effect.FaultCause.{FaultCause}
use Rattle.epl_syntax.specs.declared.effect.FaultCause.TheVariants.{NoReturn}
use Rattle.epl_run.specs.declared.block.Block.{Block}
use Rattle.epl_run.specs.declared.rest.Branch.{Branch}
use Rattle.epl_run.specs.declared.rest.Branch.TheVariants.{Whole, So, Otherwise, Body, Held}
use Rattle.epl_run.specs.declared.rest.Frame.{Frame}
use Rattle.epl_run.specs.declared.rest.Rest.{Rest}

-- monitors and conditions are few enough to be numbered by a byte
pub record IsCounted (p : Program) : Type 0 where
  pub monitors : length p.monitors.items < 2 ^ 8
  pub conditions : length p.conditions.items < 2 ^ 8

-- the steps of statements of the code
abbrev pub steps_of : List Stmt → List Step
steps_of ss = map (λ s. does (statement s)) ss

-- the end of a `with`, if there is one
abbrev pub end_of : Option ℕ → List Step
end_of None = []
end_of (Some k) = leaves k ∷ []

-- the steps of a block of the code
abbrev pub steps_in : Block → List Step
steps_in b = steps_of b.statements.now ++ end_of b.leaves

-- the steps of a branch of a step, none where it has no such branch
abbrev pub branch_steps : TypeTree → Branch → Step → List Step
branch_steps t So (does (If test so otherwise place)) = steps so
branch_steps t Otherwise (does (If test so otherwise place)) = steps otherwise
branch_steps t Body (does (While test body place)) = steps body
branch_steps t Held (does (With monitor body place)) = steps body ++ leaves (monitor_number t monitor.text) ∷ []
branch_steps t _ _ = []

-- those of a branch of a block's step, or the block itself
abbrev pub inner : TypeTree → List Step → ℕ → Branch → List Step
inner t block at Whole = block
inner t block at b = with_item (slice_get block at) (branch_steps t b) []

-- the block that a frame is in, within a block
abbrev pub own : TypeTree → List Step → Frame → List Step
own t block f = inner t block f.entered f.branch

-- the innermost block of the frames
abbrev pub block_at : TypeTree → List Step → List Frame → List Step
block_at t block [] = block
block_at t block (f ∷ fs) = block_at t (own t block f) fs

-- what is left of a block at the frames: of each block within it, the innermost first
abbrev pub rest_of : TypeTree → List Step → List Frame → List Step
rest_of t block [] = []
rest_of t block (f ∷ fs) = rest_of t (own t block f) fs ++ drop f.next (own t block f)

-- the frame behind its step, or before it again
abbrev pub kept : Frame → Bool → Frame
kept f true = f
kept f false = record { entered = f.entered; branch = f.branch; next = f.next + 1 }

-- the frame of a branch that is entered at a frame's step
abbrev pub entered : Frame → Branch → Frame
entered f b = record { entered = f.next; branch = b; next = 0 }

-- how a process ends where nothing is left
abbrev pub last_effect : Bool → Effect
last_effect true = effect.Fault NoReturn
last_effect false = effect.End

-- a branch that a step enters is not the whole
abbrev pub IsBranch : Branch → Type 0
IsBranch Whole = ⊥
IsBranch _ = Unit {0}

-- the statements of a body
abbrev pub body_of : TypeTree → Owner → List Statement
body_of t (Operation at) = with_item (slice_get t.operations at) (λ o. o.body) []
body_of t (Process at) = with_item (slice_get t.processes at) (λ p. p.body) []
body_of t _ = []

-- as steps
abbrev pub body_steps : TypeTree → Owner → List Step
body_steps t owner = map does (body_of t owner)

-- whether it has to return
abbrev pub has_to_return : Owner → Bool
has_to_return (Operation at) = true
has_to_return _ = false

-- what the answer to a step's effect sets
abbrev pub awaited_of : Step → Awaited
awaited_of (does (Checkpoint status place)) = a_code status.text
awaited_of (does (Destroy status place)) = a_code status.text
awaited_of (does (Create type_name status gives place)) = a_creation status.text gives.text
awaited_of (does (Invoke to operation args status gives place)) = a_reply status.text (map (λ n. n.text) gives)
awaited_of _ = no_answer

-- the step before a place of a block
abbrev pub step_before : List Step → ℕ → Option Step
step_before block zero = None
step_before block (suc i) = slice_get block i

-- what the answer to that step's effect sets
abbrev pub awaited_before : List Step → ℕ → Awaited
awaited_before block place = with_item (step_before block place) awaited_of no_answer

-- the same of the innermost of these frames, or this where there is none
abbrev pub awaited_from : TypeTree → List Step → Awaited → List Frame → Awaited
awaited_from t block a [] = a
awaited_from t block a (f ∷ fs) = awaited_from t (own t block f) (awaited_before (own t block f) f.next) fs

-- what the answer sets that is awaited at the frames
abbrev pub awaited : TypeTree → List Step → List Frame → Awaited
awaited t block fs = awaited_from t block no_answer fs

-- what is left to do of a process
abbrev pub left_of : TypeTree → Rest → Left
left_of t r = record {
  steps = rest_of t (body_steps t r.variables.owner) r.frames.items;
  own = own_of t r.variables.owner r.variables.params r.variables.locals;
  awaits = awaited t (body_steps t r.variables.owner) r.frames.items;
  returns = has_to_return r.variables.owner;
}

-- a turn came to this effect, and left these variables and frames
abbrev pub Came : TypeTree → List Step → Effect → Variables → List Frame → Outcome → Type 0
Came t body e v frames came = came ≡ ends e (memory t v) (awaited t body frames) (rest_of t body frames)

-- the turn came to an effect, or goes on at these frames with so many steps at most
abbrev pub Went : TypeTree → List Step → Bool → Option Effect → Variables → List Frame → ℕ → Outcome → Type 0
Went t body returns (Some e) v frames left whole = Came t body e v frames whole
Went t body returns None v frames left whole = run left t returns (memory t v) (rest_of t body frames) ≡ whole

-- steps are made where the answer could be taken
abbrev pub came_to : TypeTree → Bool → List Step → Memory → Result Memory FaultCause → Outcome
came_to t returns left before (Ok m) = run budget t returns m left
came_to t returns left before (Err cause) = faults before cause

-- what the answer to the effect of a statement that was made sets
abbrev pub awaited_at : Option (Bor Stmt) → Awaited
awaited_at None = no_answer
awaited_at (Some s) = awaited_of (does (statement s.now))
