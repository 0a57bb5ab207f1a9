-- A turn of a process of a declared type makes no capabilities.
use Rattle.std.proofs.Common.{ℕ, zero, suc, Bool, List, [], ◌∷◌, ◌++◌, map, Option, None, Some, Result, Ok, Err}
use Rattle.std.specs.Prelude.{IfOk}
use Rattle.std.specs.List.{find}
use Rattle.capability.specs.declared.Uid.{Uid}
use Rattle.capability.specs.declared.Cap.{Cap}
use Rattle.capability.specs.Capability.{full}
use Rattle.eden_value.specs.Datum.{Datum, truth, cap}
use Rattle.eden_value.specs.declared.status.Status.{Status}
use Rattle.eden_value.specs.declared.status.Status.TheVariants as status
use Rattle.eden_value.specs.Caps.{caps_of}
use Rattle.eden_model.specs.Map.{with_item, same_text}
use Rattle.epl_syntax.specs.declared.effect.Answer.{Answer}
use Rattle.epl_syntax.specs.declared.effect.Answer.TheVariants as answer
use Rattle.epl_syntax.specs.declared.effect.Effect.TheVariants as effect
use Rattle.epl_syntax.specs.declared.effect.FaultCause.{FaultCause}
use Rattle.epl_syntax.specs.declared.effect.FaultCause.TheVariants.{BadKind, NoReturn}
use Rattle.epl_syntax.specs.declared.tree.Target.{Target}
use Rattle.epl_syntax.specs.declared.tree.Target.TheVariants as target
use Rattle.epl_syntax.specs.Kinds.{have_shapes}
use Rattle.epl_syntax.specs.Tree.{TypeTree, Operation, Assign, If, While, With, Wait, Signal, Yield, Deactivate, Checkpoint, Destroy}
use Rattle.epl_syntax.specs.Tree.{Create, Invoke, Return, in_order}
use Rattle.epl_syntax.specs.Memory.{Held, Memory, value_as, set, set_each, arguments, locals}
use Rattle.epl_syntax.specs.Expressions.{value_of, values_of}
use Rattle.epl_syntax.specs.Statements.{Step, does, leaves, steps, Awaited, a_code, a_creation, a_reply, Came, goes_on, ends, ends_in}
use Rattle.epl_syntax.specs.Statements.{faults, with_found, tested, present, target_of, came_of}
use Rattle.epl_syntax.specs.Turns.{Left, code, kinds_as, taken, told, onward, run, budget, seen_by, values_in, came_to, as_turn}
use Rattle.epl_syntax.specs.Turns.{process_turn, left_of, nothing_left, operation_left}
use Rattle.epl_syntax.specs.Meaning.{of_declared, turned_as}
use Rattle.epl_syntax.specs.Authority.{IsBelowOne, AllBelow, effect_caps, reply_caps, answer_caps, AreLeft}
use Rattle.epl_syntax.proofs.Owned.{Owned, AllOwned, owned_caps, caps_owned, either, found_through}
use Rattle.epl_syntax.proofs.Evaluated.{VarsOwned, MemoryOwned, value_owned, row_owned, value_as_owned, set_owned, set_each_owned}
use Rattle.epl_syntax.proofs.Evaluated.{variables_owned, arguments_owned, locals_owned, body_owned, values_owned}

abbrev CameOwned : List Cap → Came → Type 0
CameOwned held (goes_on m rest) = MemoryOwned held m
CameOwned held (ends e m awaits rest) = MemoryOwned held m × AllBelow (effect_caps e) held

with_found_owned : {X : Type 0} (held : List Cap) (P : X → Type 0) (m : Memory) (r : Result X FaultCause) (f : X → Came)
    → MemoryOwned held m → IfOk r P
    → ((x : X) → P x → CameOwned held (f x)) → CameOwned held (with_found m r f)
with_found_owned held P m (Ok x) f h k go = go x k
with_found_owned held P m (Err cause) f h k go = (h, tt)

tested_owned : (held : List Cap) (m : Memory) (d : Datum) (so otherwise : List Step) → MemoryOwned held m
    → CameOwned held (tested m d so otherwise)
tested_owned held m (truth b) so otherwise h = h
tested_owned held m _ so otherwise h = (h, tt)

present_owned : (held : List Cap) (d : Datum) → Owned held d → IfOk (present d) (λ c. IsBelowOne c held)
present_owned held (cap (Some c)) h = h.0
present_owned held _ h = tt

target_owned : (held : List Cap) (m : Memory) (to : Target) → MemoryOwned held m → IfOk (target_of m to) (λ c. IsBelowOne c held)
target_owned held m (target.Name name) h = found_through (Owned held) (λ c. IsBelowOne c held) (value_as m name.text) present
    (value_as_owned held m name.text h) (λ d k. present_owned held d k)
target_owned held m (target.Me place) h = h.me

came_owned : (held : List Cap) (t : TypeTree) (m : Memory) (s : Step) (rest : List Step) → MemoryOwned held m
    → CameOwned held (came_of t m s rest)
came_owned held t m (leaves k) rest h = (h, tt)
came_owned held t m (does (Assign name value)) rest h =
    with_found_owned held (Owned held) m (value_of m value) (λ d. goes_on (set name.text d m) rest) h (value_owned held m h value)
    (λ d k. set_owned held name.text d m k h)
came_owned held t m (does (If test so otherwise place)) rest h =
    with_found_owned held (Owned held) m (value_of m test) (λ d. tested m d (steps so ++ rest) (steps otherwise ++ rest)) h
    (value_owned held m h test) (λ d k. tested_owned held m d (steps so ++ rest) (steps otherwise ++ rest) h)
came_owned held t m (does (While test body place)) rest h =
    with_found_owned held (Owned held) m (value_of m test) (λ d. tested m d (steps body ++ does (While test body place) ∷ rest) rest) h
    (value_owned held m h test)
    (λ d k. tested_owned held m d (steps body ++ does (While test body place) ∷ rest) rest h)
came_owned held t m (does (With monitor body place)) rest h = (h, tt)
came_owned held t m (does (Wait condition place)) rest h = (h, tt)
came_owned held t m (does (Signal condition place)) rest h = (h, tt)
came_owned held t m (does (Yield place)) rest h = (h, tt)
came_owned held t m (does (Deactivate place)) rest h = (h, tt)
came_owned held t m (does (Checkpoint status place)) rest h = (h, tt)
came_owned held t m (does (Destroy status place)) rest h = (h, tt)
came_owned held t m (does (Create type_name status gives place)) rest h = (h, tt)
came_owned held t m (does (Invoke to operation args status gives place)) rest h =
    with_found_owned held (λ c. IsBelowOne c held) m (target_of m to)
    (λ c. with_found m (values_of m (in_order args))
    (λ ds. ends (effect.Invoke c operation.text ds) m (a_reply status.text (map (λ n. n.text) gives)) rest)) h
    (target_owned held m to h)
    (λ c k. with_found_owned held (AllOwned held) m (values_of m (in_order args))
    (λ ds. ends (effect.Invoke c operation.text ds) m (a_reply status.text (map (λ n. n.text) gives)) rest) h
    (row_owned held m h (in_order args)) (λ ds x. (h, (k, owned_caps held ds x))))
came_owned held t m (does (Return results place)) rest h =
    with_found_owned held (AllOwned held) m (values_of m (in_order results)) (λ ds. ends_in (effect.Return ds) m rest) h
    (row_owned held m h (in_order results)) (λ ds x. (h, owned_caps held ds x))

onward_owned : (held : List Cap) (c : Came) (go : Memory → List Step → Came) → CameOwned held c
    → ((m : Memory) (rest : List Step) → MemoryOwned held m → CameOwned held (go m rest)) → CameOwned held (onward c go)
onward_owned held (goes_on m rest) go h k = k m rest h
onward_owned held (ends e m awaits rest) go h k = h

run_owned : (held : List Cap) (n : ℕ) (t : TypeTree) (returns : Bool) (m : Memory) (rest : List Step) → MemoryOwned held m
    → CameOwned held (run n t returns m rest)
unfolding run
run_owned held zero t returns m [] h = either (CameOwned held) returns (faults m NoReturn) (ends_in effect.End m []) (h, tt) (h, tt)
run_owned held (suc n) t returns m [] h = either (CameOwned held) returns (faults m NoReturn) (ends_in effect.End m []) (h, tt) (h, tt)
run_owned held zero t returns m (s ∷ rest) h = (h, tt)
run_owned held (suc n) t returns m (s ∷ rest) h = onward_owned held (came_of t m s rest) (run n t returns) (came_owned held t m s rest h)
    (λ m rest k. run_owned held n t returns m rest k)

-- ---- the answer
abbrev AllMemoryOwned : List Cap → Result Memory FaultCause → Type 0
AllMemoryOwned held r = IfOk r (MemoryOwned held)

taken_owned : (held : List Cap) (gives : List (List ℕ)) (s : Status) (results : List Datum) (m : Memory)
    → AllBelow (reply_caps s results) held → MemoryOwned held m → AllMemoryOwned held (taken gives s results m)
taken_owned held gives status.Ok results m h k =
    either (AllMemoryOwned held) (have_shapes results (kinds_as m gives)) (Ok (set_each gives results m)) (Err BadKind)
    (set_each_owned held gives results m (caps_owned held results h) k) tt
taken_owned held gives _ results m h k = k

told_owned : (held : List Cap) (awaits : Awaited) (a : Answer) (m : Memory) → AllBelow (answer_caps a) held → MemoryOwned held m
    → AllMemoryOwned held (told awaits a m)
told_owned held (a_code x) (answer.Code s) m h k = set_owned held x (code s) m tt k
told_owned held (a_creation x y) (answer.Created s c) m h k =
    set_owned held y (cap c) (set x (code s) m) h (set_owned held x (code s) m tt k)
told_owned held (a_reply x gives) (answer.Reply s results) m h k =
    taken_owned held gives s results (set x (code s) m) h (set_owned held x (code s) m tt k)
told_owned held _ _ m h k = k

came_to_owned : (held : List Cap) (t : TypeTree) (left : Left) (before : Memory) (r : Result Memory FaultCause) → MemoryOwned held before
    → AllMemoryOwned held r → CameOwned held (came_to t left before r)
came_to_owned held t left before (Ok m) h k = run_owned held budget t left.returns m left.steps k
came_to_owned held t left before (Err cause) h k = (h, tt)

as_turn_owned : (held : List Cap) (returns : Bool) (c : Came) → CameOwned held c → AreLeft held (turned_as of_declared (as_turn returns c))
as_turn_owned held returns (ends e m awaits rest) h = record {
  vars = owned_caps held (values_in m.shared) (values_owned held m.shared h.0.shared);
  rest = owned_caps held (values_in m.own) (values_owned held m.own h.0.own);
  effect = h.1;
}
as_turn_owned held returns (goes_on m rest) h = record {
  vars = owned_caps held (values_in m.shared) (values_owned held m.shared h.shared);
  rest = owned_caps held (values_in m.own) (values_owned held m.own h.own);
  effect = tt;
}

vars_from : (held : List Cap) (vs : List Held) → AllOwned held (values_in vs) → VarsOwned held vs
vars_from held [] h = tt
vars_from held (v ∷ vs) h = (h.0, vars_from held vs h.1)

pub process_owned : (held : List Cap) (t : TypeTree) (vars : List Datum) (left : Left) (a : Answer) (me : Uid)
    → AllBelow (caps_of vars) held → AllBelow (caps_of (values_in left.own)) held
    → AllBelow (answer_caps a) held → IsBelowOne (full me) held → AreLeft held (turned_as of_declared (process_turn t vars left a me))
process_owned held t vars left a me h k x y =
    let m : Memory = seen_by t vars left me in
    let seen : MemoryOwned held m =
    record {
      own = vars_from held left.own (caps_owned held (values_in left.own) k);
      shared = variables_owned held t.vars vars
          (caps_owned held vars h);
      me = y;
    } in
    as_turn_owned held left.returns (came_to t left m (told left.awaits a m))
    (came_to_owned held t left m (told left.awaits a m) seen (told_owned held left.awaits a m x seen))

pub operation_owned : (held : List Cap) (t : TypeTree) (name : List ℕ) (args : List Datum) → AllOwned held args
    → AllBelow (caps_of (values_in (operation_left t name args).own)) held
operation_owned held t name args h = go (find (λ o. same_text o.name.text name) t.operations)
  where
    go : (o : Option Operation) → AllBelow (caps_of (values_in (with_item o (λ o. left_of o args) nothing_left).own)) held
    go None = tt
    go (Some o) = owned_caps held (values_in (arguments o.params args ++ locals o.locals))
        (values_owned held (arguments o.params args ++ locals o.locals)
        (body_owned held (arguments o.params args) (locals o.locals) (arguments_owned held o.params args h)
        (locals_owned held o.locals)))
