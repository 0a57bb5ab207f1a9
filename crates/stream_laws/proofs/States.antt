-- What a stage is at, told by its active part.
use Rattle.std.specs.Prelude.{◌≡◌, ℕ, List, [], ◌∷◌, Option, None, Some}
use Rattle.std.proofs.Common.{ap, ◌∙◌}
use Rattle.std.specs.Ordering.{nat_cmp}
use Rattle.capability.specs.declared.Uid.{Uid}
use Rattle.eden_value.specs.Datum.{Datum}
use Rattle.eden_model.specs.Map.{with_item, value_at}
use Rattle.eden_model.specs.Crew.{Process as Worker, Invocation}
use Rattle.epl_syntax.specs.declared.effect.Answer.{Answer}
use Rattle.epl_syntax.specs.Natives.{Stage}
use Rattle.epl_syntax.specs.Meaning.{Rest, of_native, of_declared}
use Rattle.journal.specs.World.{World, Task, Active, Eject, eject_at}
use Rattle.journal.specs.Sites.{active_in}

-- it is not there, or not active; or it is active with these values, and serves no call, or this one, with this left to do and told
pub data State : Type 0 where
  absent asleep : State
  idle : List Datum → State
  busy : ℕ → Stage → Answer → List Datum → State

abbrev pub rest_state : ℕ → List Datum → Answer → Rest → State
rest_state k vars a (of_native st) = busy k st a vars
rest_state k vars a (of_declared left) = asleep

abbrev pub process_state : Active → List (ℕ × Worker) → State
process_state it [] = idle it.vars
process_state it (p ∷ ps) = with_item p.1.serves
    (λ i. with_item (value_at nat_cmp p.0 it.tasks) (λ t. rest_state i.call it.vars t.answer t.rest) (idle it.vars)) (idle it.vars)

abbrev pub active_state : Active → State
active_state it = process_state it it.crew.processes

abbrev pub state_in : Option Eject → State
state_in o = with_item o (λ e. with_item e.active active_state asleep) absent

abbrev pub state_of : World → Uid → State
state_of w u = state_in (eject_at w u)

pub state-active : (o : Option Eject) (it : Active) → active_in o ≡ Some it → state_in o ≡ active_state it
state-active None it is = absurd (cc is)
state-active (Some e) it is = ap (λ o. with_item o active_state asleep) is

pub idle-state : (it : Active) → it.crew.processes ≡ [] → active_state it ≡ idle it.vars
idle-state it none = ap (process_state it) none

pub busy-state : (it : Active) (n : ℕ) (q : Worker) (i : Invocation) (t : Task) (st : Stage) → it.crew.processes ≡ (n, q) ∷ []
    → q.serves ≡ Some i → value_at nat_cmp n it.tasks ≡ Some t → t.rest ≡ of_native st → active_state it ≡ busy i.call st t.answer it.vars
busy-state it n q i t st alone serves has rest = ap (process_state it) alone
    ∙ ap (λ o. with_item o (λ (i : Invocation). with_item (value_at nat_cmp n it.tasks)
    (λ (t : Task). rest_state i.call it.vars t.answer t.rest) (idle it.vars)) (idle it.vars)) serves
    ∙ ap (λ o. with_item o (λ (t : Task). rest_state i.call it.vars t.answer t.rest) (idle it.vars)) has
    ∙ ap (rest_state i.call it.vars t.answer) rest
