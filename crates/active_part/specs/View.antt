-- The code's active part as a body.
use Rattle.std.specs.Prelude.{◌≡◌, ◌≤◌, ◌<◌, ℕ, List, length, Option, None, Some}
use Rattle.std.specs.Option.{option_map}
use Rattle.capability.specs.declared.TheConstants.{BODY_LIMIT}
use Rattle.coordinator.specs.declared.parts.Started.{Started}
use Rattle.eden_model.specs.Crew.{Crew, Coordination, Invocation, startable, least_free, started_in, locked, left, waited, signalled}
use Rattle.eden_model.specs.Map.{each_value, with_item}
use Rattle.epl_syntax.specs.declared.effect.Effect.{Effect}
use Rattle.epl_syntax.specs.declared.effect.Effect.TheVariants as effect
use Rattle.epl_syntax.specs.Edentype.{Edentype}
use Rattle.epl_syntax.specs.Meaning.{begin}
use Rattle.epl_syntax.specs.Rules.OfTypes.{TypeList}
use Rattle.edentypes.specs.View.{kind_in, rest_of}
use Rattle.invocation.specs.declared.call.Call.{Call}
use Rattle.journal.specs.World.{Task}
use Rattle.journal.specs.FitTurns.{MayStep}
use Rattle.active_part.specs.Bodies.{started_body}
use Rattle.active_part.specs.Body.{Body}
use Rattle.active_part.specs.declared.Doing.{Doing}
use Rattle.active_part.specs.declared.part.Part.{Part}
use Rattle.active_part.specs.declared.Step.{Step}
use Rattle.active_part.specs.declared.Step.TheVariants.{Lock, Leave, Wait, Signal}

-- a process's task, of a part of this type
abbrev pub task_of : Edentype → Doing → Task
task_of t d = record { rest = rest_of t d.rest; answer = d.answer }

-- by the types of the script, among which the part has its own
abbrev pub body_of : TypeList → Part → Body
body_of ts a = record {
  kind = kind_in ts a.kind;
  vars = a.vars;
  tasks = each_value (task_of (kind_in ts a.kind)) a.tasks.entries.items;
  crew = a.crew;
}

-- its processes and its queue, whatever the types of the script
abbrev pub coordination_of : Part → Coordination
coordination_of a = a.crew

-- what a step at the monitors changes of the processes
abbrev pub stepped : Step → ℕ → Crew → Crew
stepped (Lock m) p = locked p m
stepped (Leave m) p = left m
stepped (Wait c) p = waited p c
stepped (Signal c) p = signalled c

-- the effect of a turn that is such a step
abbrev pub effect_of : Step → Effect
effect_of (Lock m) = effect.Lock m
effect_of (Leave m) = effect.Leave m
effect_of (Wait c) = effect.Wait c
effect_of (Signal c) = effect.Signal c

-- a process that runs may take the step
abbrev pub MayTake : Crew → ℕ → Step → Type 0
MayTake crew p step = MayStep crew p (effect_of step)

-- the invocation that may start left the queue, and runs in a process of the least free number
pub record StartsNext (old new : Coordination) (st : Started) : Type 0 where
  pub call : Some st.call ≡ option_map (λ i. i.call) (startable old.crew old.queued)
  pub process : st.process ≡ least_free old.crew
  pub after : new ≡ with_item (startable old.crew old.queued) (λ i. started_in i old) old

-- the invocation that may start has begun, of which the call is this
abbrev pub IsStarted : Body → Body → Call → Started → Type 0
IsStarted old new x st = (i : Invocation) → startable old.crew.crew old.crew.queued ≡ Some i
    → (st.call ≡ i.call) × (st.process ≡ least_free old.crew.crew)
    × (new ≡ started_body (least_free old.crew.crew) (begin old.kind x.operation x.args) i old)

-- these bytes, unless they are too many to be kept
abbrev pub IsEncoded : List ℕ → Option (List ℕ) → Type 0
IsEncoded bytes None = BODY_LIMIT < length bytes
IsEncoded bytes (Some body) = (body ≡ bytes) × (length bytes ≤ BODY_LIMIT)
