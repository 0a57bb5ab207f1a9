-- A turn by the code is the turn that is meant.
use Rattle.std.proofs.Common.{◌≡◌, List, Result, Ok, Err, refl, ap, sym, ◌∙◌, subst}
use Rattle.std.specs.Prelude.{IfOk}
use Rattle.capability.specs.declared.Uid.{Uid}
use Rattle.eden_value.specs.Datum.{Datum}
use Rattle.epl_syntax.specs.declared.effect.Answer.{Answer}
use Rattle.epl_syntax.specs.declared.effect.Answer.TheVariants.{Go}
use Rattle.epl_syntax.specs.Statements.{Awaited, no_answer, a_code, a_creation, a_reply}
use Rattle.epl_syntax.specs.declared.effect.Effect.{Effect}
use Rattle.epl_syntax.specs.declared.effect.FaultCause.{FaultCause}
use Rattle.epl_syntax.specs.Memory.{Memory, variables}
use Rattle.epl_syntax.specs.Tree.{TypeTree}
use Rattle.epl_syntax.specs.Turns.{Left, told, values_in, as_turn, process_turn, came_to as came_to_left}
use Rattle.epl_values.specs.declared.variables.Variables.{Variables}
use Rattle.epl_values.specs.Variables.{memory, own_of}
use Rattle.epl_run.specs.declared.rest.Frame.{Frame}
use Rattle.epl_run.specs.declared.rest.Rest.{Rest}
use Rattle.epl_run.specs.Blocks.{left_of, rest_of, body_steps, has_to_return, awaited, Came, came_to}

came_same : (t : TypeTree) (left : Left) (before : Memory) (m : Result Memory FaultCause)
    → came_to_left t left before m ≡ came_to t left.returns left.steps before m
came_same t left before (Ok m) = refl
came_same t left before (Err cause) = refl

-- the variables with which a turn starts
abbrev pub handed : Rest → List Datum → Uid → Variables
handed r vars me =
    record { owner = r.variables.owner; params = r.variables.params; locals = r.variables.locals; vars = vars; me = me }

-- what comes of it
abbrev CameOf : TypeTree → Rest → Answer → Variables → Effect → Variables → List Frame → Type 0
CameOf t r answer v e w fr =
    Came t (body_steps t r.variables.owner) e w fr (came_to t (has_to_return r.variables.owner)
    (rest_of t (body_steps t r.variables.owner) r.frames.items) (memory t v)
    (told (awaited t (body_steps t r.variables.owner) r.frames.items) answer (memory t v)))

-- what is left at these variables and frames
abbrev left_at : TypeTree → Variables → List Frame → Left
left_at t w fr = record {
  steps = rest_of t (body_steps t w.owner) fr;
  own = own_of t w.owner w.params w.locals;
  awaits = awaited t (body_steps t w.owner) fr;
  returns = has_to_return w.owner;
}

pub turn_is : (t : TypeTree) (vars start kept : List Datum) (r : Rest) (answer : Answer) (me : Uid) (w : Variables) (fr : List Frame)
    (e : Effect) → start ≡ vars → w.owner ≡ r.variables.owner → kept ≡ values_in (variables t.vars w.vars)
    → CameOf t r answer (handed r start me) e w fr → process_turn t vars (left_of t r) answer me ≡ (kept, left_at t w fr, e)
unfolding memory
turn_is t vars start kept r answer me w fr e same owner is came =
    let came_vars : CameOf t r answer (handed r vars me) e w fr =
    subst (λ ds. CameOf t r answer (handed r ds me) e w fr) same came in
    ap (as_turn (has_to_return r.variables.owner))
    (came_same t (left_of t r) (memory t (handed r vars me))
    (told (awaited t (body_steps t r.variables.owner) r.frames.items) answer (memory t (handed r vars me))) ∙ came_vars)
    ∙ ap (λ o. (
      values_in (variables t.vars w.vars),
      record {
        steps = rest_of t (body_steps t o) fr;
        own = own_of t w.owner w.params w.locals;
        awaits = awaited t (body_steps t o) fr;
        returns = has_to_return o;
      },
      e,
    )) (sym owner)
    ∙ ap (λ ds. (ds, left_at t w fr, e)) (sym is)

-- an answer that tells nothing sets nothing
pub told_go : (a : Awaited) (answer : Answer) (m : Memory) → answer ≡ Go → told a answer m ≡ Ok m
told_go a answer m is = ap (λ x. told a x m) is ∙ by a
  where
    by : (a : Awaited) → told a Go m ≡ Ok m
    by no_answer = refl
    by (a_code status) = refl
    by (a_creation status gives) = refl
    by (a_reply status gives) = refl

-- what holds of each effect holds of that which came
pub on_ok : {E : Type 0} {P Q : Effect → Type 0} (r : Result Effect E) → ((e : Effect) → P e → Q e) → IfOk r P → IfOk r Q
on_ok (Ok e) f h = f e h
on_ok (Err e) f h = h
