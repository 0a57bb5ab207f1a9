-- A turn of a process of a declared type leaves values within the limits.
use Rattle.std.proofs.Common.{◌<◌, ◌^◌, arith, ℕ, pos, zero, suc, Bool, List, [], ◌∷◌, ◌++◌, map, Option, Some, Result, Ok, Err}
use Rattle.std.specs.Prelude.{IfOk, FitsSigned}
use Rattle.std.specs.Int.{w64}
use Rattle.std.specs.List.{AllByRecursion, find}
use Rattle.capability.specs.Capability.{full}
use Rattle.capability.specs.declared.Uid.{Uid}
use Rattle.eden_value.specs.Datum.{Datum, truth, cap}
use Rattle.eden_value.specs.Status.{status_number}
use Rattle.eden_value.specs.declared.status.Status.{Status}
use Rattle.eden_value.specs.declared.status.Status.TheVariants as status
use Rattle.eden_model.specs.Map.{with_item, same_text}
use Rattle.epl_syntax.specs.Constants.{ExpressionFits, ExpressionsFit, LocalsFit, StatementFits, StatementsFit, TreeFits}
use Rattle.epl_syntax.specs.Edentype.{declared}
use Rattle.epl_syntax.specs.Expressions.{value_of, values_of}
use Rattle.epl_syntax.specs.Kinds.{have_shapes}
use Rattle.epl_syntax.specs.Meaning.{of_declared, turned_as}
use Rattle.epl_syntax.specs.Memory.{Held, Memory, value_as, set, set_each, arguments, locals}
use Rattle.epl_syntax.specs.Statements.{Step, does, leaves, steps, Awaited, a_code, a_creation, a_reply, Came, goes_on, ends, ends_in}
use Rattle.epl_syntax.specs.Statements.{faults, with_found, tested, present, target_of, came_of}
use Rattle.epl_syntax.specs.Tree.{TypeTree, Operation, Statement, Statements, no_statements, statement_and, Expression, Process, Assign, If}
use Rattle.epl_syntax.specs.Tree.{While, With, Wait, Signal, Yield, Deactivate, Checkpoint, Destroy, Create, Invoke, Return, in_order}
use Rattle.epl_syntax.specs.Turns.{Left, code, kinds_as, taken, told, onward, run, budget, seen_by, values_in, came_to, as_turn}
use Rattle.epl_syntax.specs.Turns.{process_turn, left_of, nothing_left, operation_left, process_left}
use Rattle.epl_syntax.specs.declared.effect.Answer.{Answer}
use Rattle.epl_syntax.specs.declared.effect.Answer.TheVariants as answer
use Rattle.epl_syntax.specs.declared.effect.Effect.TheVariants as effect
use Rattle.epl_syntax.specs.declared.effect.FaultCause.{FaultCause}
use Rattle.epl_syntax.specs.declared.effect.FaultCause.TheVariants.{BadKind, NoReturn}
use Rattle.epl_syntax.specs.declared.tree.Target.{Target}
use Rattle.epl_syntax.specs.declared.tree.Target.TheVariants as target
use Rattle.value_laws.specs.Limited.{IsLimited, AreLimited, StepFits, AnswerFits, EffectFits, IsLeftLimited}
use Rattle.value_laws.proofs.Evaluated.{VarsLimited, MemoryLimited, value_limited, row_limited, value_as_limited, set_limited}
use Rattle.value_laws.proofs.Evaluated.{set_each_limited, variables_limited, arguments_limited, locals_limited, body_limited}
use Rattle.value_laws.proofs.Evaluated.{values_limited}
use Rattle.value_laws.proofs.Values.{either, found_through, small_fits}

-- 1. A step

-- the steps of a body fit
abbrev pub StepsFit : List Step → Type 0
StepsFit ss = AllByRecursion StepFits ss

pub block_fits : (ss : Statements) → StatementsFit ss → StepsFit (steps ss)
block_fits no_statements h = tt
block_fits (statement_and s ss) h = (h.0, block_fits ss h.1)

pub body_fits : (ss : List Statement) → AllByRecursion StatementFits ss → StepsFit (map does ss)
body_fits [] h = tt
body_fits (s ∷ ss) h = (h.0, body_fits ss h.1)

both_fit : (xs ys : List Step) → StepsFit xs → StepsFit ys → StepsFit (xs ++ ys)
both_fit [] ys h k = k
both_fit (x ∷ xs) ys h k = (h.0, both_fit xs ys h.1 k)

row_fits : (es : List Expression) → AllByRecursion ExpressionFits es → ExpressionsFit (in_order es)
row_fits [] h = tt
row_fits (e ∷ es) h = (h.0, row_fits es h.1)

status_small : (s : Status) → status_number s < 2 ^ 32
status_small status.Ok = omega arith
status_small status.NoRight = omega arith
status_small status.NoOperation = omega arith
status_small status.BadArguments = omega arith
status_small status.Gone = omega arith
status_small status.Unreachable = omega arith
status_small status.Broken = omega arith
status_small status.StoreFault = omega arith
status_small status.Damaged = omega arith
status_small status.Dropped = omega arith
status_small status.Busy = omega arith
status_small status.TooLarge = omega arith
status_small status.Full = omega arith
status_small status.TooMany = omega arith
status_small status.SerialsSpent = omega arith

abbrev CameLimited : Came → Type 0
CameLimited (goes_on m rest) = MemoryLimited m × StepsFit rest
CameLimited (ends e m awaits rest) = MemoryLimited m × EffectFits e × StepsFit rest

with_found_limited : {X : Type 0} (P : X → Type 0) (m : Memory) (r : Result X FaultCause) (f : X → Came)
    → MemoryLimited m → IfOk r P
    → ((x : X) → P x → CameLimited (f x)) → CameLimited (with_found m r f)
with_found_limited P m (Ok x) f h k go = go x k
with_found_limited P m (Err cause) f h k go = (h, tt, tt)

tested_limited : (m : Memory) (d : Datum) (so otherwise : List Step) → MemoryLimited m → StepsFit so → StepsFit otherwise
    → CameLimited (tested m d so otherwise)
tested_limited m (truth b) so otherwise h k x = (h, either StepsFit b so otherwise k x)
tested_limited m _ so otherwise h k x = (h, tt, tt)

present_limited : (d : Datum) → IsLimited d → IfOk (present d) (λ c. IsLimited (cap (Some c)))
present_limited (cap (Some c)) h = h
present_limited _ h = tt

target_limited : (m : Memory) (to : Target) → MemoryLimited m → IfOk (target_of m to) (λ c. IsLimited (cap (Some c)))
target_limited m (target.Name name) h = found_through IsLimited (λ c. IsLimited (cap (Some c))) (value_as m name.text) present
    (value_as_limited m name.text h) (λ d k. present_limited d k)
target_limited m (target.Me place) h = h.me

came_limited : (t : TypeTree) (m : Memory) (s : Step) (rest : List Step) → MemoryLimited m → StepFits s → StepsFit rest
    → CameLimited (came_of t m s rest)
came_limited t m (leaves k) rest h f g = (h, tt, g)
came_limited t m (does (Assign name value)) rest h f g =
    with_found_limited IsLimited m (value_of m value) (λ d. goes_on (set name.text d m) rest) h (value_limited m h value f)
    (λ d k. (set_limited name.text d m k h, g))
came_limited t m (does (If test so otherwise place)) rest h f g =
    with_found_limited IsLimited m (value_of m test) (λ d. tested m d (steps so ++ rest) (steps otherwise ++ rest)) h
    (value_limited m h test f.0) (λ d k. tested_limited m d (steps so ++ rest) (steps otherwise ++ rest) h
    (both_fit (steps so) rest (block_fits so f.1) g) (both_fit (steps otherwise) rest (block_fits otherwise f.2) g))
came_limited t m (does (While test body place)) rest h f g =
    with_found_limited IsLimited m (value_of m test) (λ d. tested m d (steps body ++ does (While test body place) ∷ rest) rest) h
    (value_limited m h test f.0)
    (λ d k. tested_limited m d (steps body ++ does (While test body place) ∷ rest) rest h
    (both_fit (steps body) (does (While test body place) ∷ rest) (block_fits body f.1) (f, g)) g)
came_limited t m (does (With monitor body place)) rest h f g =
    (h, tt, both_fit (steps body) (leaves _ ∷ rest) (block_fits body f) (tt, g))
came_limited t m (does (Wait condition place)) rest h f g = (h, tt, g)
came_limited t m (does (Signal condition place)) rest h f g = (h, tt, g)
came_limited t m (does (Yield place)) rest h f g = (h, tt, g)
came_limited t m (does (Deactivate place)) rest h f g = (h, tt, g)
came_limited t m (does (Checkpoint status place)) rest h f g = (h, tt, g)
came_limited t m (does (Destroy status place)) rest h f g = (h, tt, g)
came_limited t m (does (Create type_name status gives place)) rest h f g = (h, tt, g)
came_limited t m (does (Invoke to operation args status gives place)) rest h f g =
    with_found_limited (λ c. IsLimited (cap (Some c))) m (target_of m to)
    (λ c. with_found m (values_of m (in_order args))
    (λ ds. ends (effect.Invoke c operation.text ds) m (a_reply status.text (map (λ n. n.text) gives)) rest)) h
    (target_limited m to h)
    (λ c k. with_found_limited AreLimited m (values_of m (in_order args))
    (λ ds. ends (effect.Invoke c operation.text ds) m (a_reply status.text (map (λ n. n.text) gives)) rest) h
    (row_limited m h (in_order args) (row_fits args f)) (λ ds x. (h, (k, x), g)))
came_limited t m (does (Return results place)) rest h f g =
    with_found_limited AreLimited m (values_of m (in_order results)) (λ ds. ends_in (effect.Return ds) m rest) h
    (row_limited m h (in_order results) (row_fits results f)) (λ ds x. (h, x, g))

onward_limited : (c : Came) (go : Memory → List Step → Came) → CameLimited c
    → ((m : Memory) (rest : List Step) → MemoryLimited m → StepsFit rest → CameLimited (go m rest)) → CameLimited (onward c go)
onward_limited (goes_on m rest) go h k = k m rest h.0 h.1
onward_limited (ends e m awaits rest) go h k = h

run_limited : (n : ℕ) (t : TypeTree) (returns : Bool) (m : Memory) (rest : List Step) → MemoryLimited m → StepsFit rest
    → CameLimited (run n t returns m rest)
unfolding run
run_limited zero t returns m [] h g = either CameLimited returns (faults m NoReturn) (ends_in effect.End m []) (h, tt, tt) (h, tt, tt)
run_limited (suc n) t returns m [] h g = either CameLimited returns (faults m NoReturn) (ends_in effect.End m []) (h, tt, tt) (h, tt, tt)
run_limited zero t returns m (s ∷ rest) h g = (h, tt, tt)
run_limited (suc n) t returns m (s ∷ rest) h g = onward_limited (came_of t m s rest) (run n t returns)
    (came_limited t m s rest h g.0 g.1) (λ m rest k x. run_limited n t returns m rest k x)

-- 2. The answer
abbrev AllMemoryLimited : Result Memory FaultCause → Type 0
AllMemoryLimited r = IfOk r MemoryLimited

number_small : (s : Status) → FitsSigned w64 (pos (status_number s))
number_small s = small_fits (status_number s) (status_small s)

pub code_limited : (s : Status) → IsLimited (code s)
code_limited s = (tt, number_small s)

taken_limited : (gives : List (List ℕ)) (s : Status) (results : List Datum) (m : Memory)
    → AreLimited results → MemoryLimited m → AllMemoryLimited (taken gives s results m)
taken_limited gives status.Ok results m h k =
    either AllMemoryLimited (have_shapes results (kinds_as m gives)) (Ok (set_each gives results m)) (Err BadKind)
    (set_each_limited gives results m h k) tt
taken_limited gives _ results m h k = k

told_limited : (awaits : Awaited) (a : Answer) (m : Memory) → AnswerFits a → MemoryLimited m → AllMemoryLimited (told awaits a m)
told_limited (a_code x) (answer.Code s) m h k = set_limited x (code s) m (code_limited s) k
told_limited (a_creation x y) (answer.Created s c) m h k =
    set_limited y (cap c) (set x (code s) m) h (set_limited x (code s) m (code_limited s) k)
told_limited (a_reply x gives) (answer.Reply s results) m h k =
    taken_limited gives s results (set x (code s) m) h (set_limited x (code s) m (code_limited s) k)
told_limited _ _ m h k = k

came_to_limited : (t : TypeTree) (left : Left) (before : Memory) (r : Result Memory FaultCause) → MemoryLimited before
    → StepsFit left.steps → AllMemoryLimited r → CameLimited (came_to t left before r)
came_to_limited t left before (Ok m) h g k = run_limited budget t left.returns m left.steps k g
came_to_limited t left before (Err cause) h g k = (h, tt, tt)

as_turn_limited : (t : TypeTree) (returns : Bool) (c : Came) → CameLimited c
    → IsLeftLimited (declared t) (turned_as of_declared (as_turn returns c))
as_turn_limited t returns (ends e m awaits rest) h = record {
  vars = values_limited m.shared h.0.shared;
  fits = tt;
  rest = (h.2, values_limited m.own h.0.own);
  room = λ e. tt;
  effect = h.1;
}
as_turn_limited t returns (goes_on m rest) h = record {
  vars = values_limited m.shared h.0.shared;
  fits = tt;
  rest = (h.1, values_limited m.own h.0.own);
  room = λ e. tt;
  effect = tt;
}

vars_from : (vs : List Held) → AreLimited (values_in vs) → VarsLimited vs
vars_from [] h = tt
vars_from (v ∷ vs) h = (h.0, vars_from vs h.1)

pub process_limited : (t : TypeTree) (vars : List Datum) (left : Left) (a : Answer) (me : Uid)
    → AreLimited vars → StepsFit left.steps → AreLimited (values_in left.own)
    → AnswerFits a → IsLimited (cap (Some (full me)))
    → IsLeftLimited (declared t) (turned_as of_declared (process_turn t vars left a me))
process_limited t vars left a me h g k x y =
    let m : Memory = seen_by t vars left me in
    let seen : MemoryLimited m =
    record {
      own = vars_from left.own k;
      shared = variables_limited t.vars vars h;
      me = y;
    } in
    as_turn_limited t left.returns (came_to t left m (told left.awaits a m))
    (came_to_limited t left m (told left.awaits a m) seen g (told_limited left.awaits a m x seen))

pub operation_limited : (t : TypeTree) (name : List ℕ) (args : List Datum) → TreeFits t → AreLimited args
    → StepsFit (operation_left t name args).steps × AreLimited (values_in (operation_left t name args).own)
operation_limited t name args fit h = go t.operations fit.operations
  where
    one : (o : Operation) → LocalsFit o.locals × AllByRecursion StatementFits o.body
        → StepsFit (left_of o args).steps × AreLimited (values_in (left_of o args).own)
    one o f = (
      body_fits o.body f.1,
      values_limited (arguments o.params args ++ locals o.locals)
          (body_limited (arguments o.params args) (locals o.locals) (arguments_limited o.params args h) (locals_limited o.locals f.0)),
    )

    P : Option Operation → Type 0
    P o = StepsFit (with_item o (λ o. left_of o args) nothing_left).steps
        × AreLimited (values_in (with_item o (λ o. left_of o args) nothing_left).own)

    go : (os : List Operation)
        → AllByRecursion (λ (o : Operation). LocalsFit o.locals × AllByRecursion StatementFits o.body) os
        → P (find (λ o. same_text o.name.text name) os)
    go [] f = (tt, tt)
    go (o ∷ os) f = either P (same_text o.name.text name) (Some o) (find (λ o. same_text o.name.text name) os) (one o f.0) (go os f.1)

pub declared_limited : (p : Process) → LocalsFit p.locals × AllByRecursion StatementFits p.body
    → StepsFit (process_left p).steps × AreLimited (values_in (process_left p).own)
declared_limited p f = (body_fits p.body f.1, values_limited (locals p.locals) (locals_limited p.locals f.0))
