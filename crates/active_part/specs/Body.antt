-- An active part as contracts see it.
use Rattle.std.specs.Prelude.{ℕ, List, map}
use Rattle.eden_value.specs.Datum.{Datum}
use Rattle.eden_model.specs.Crew.{Coordination, Invocation}
use Rattle.epl_syntax.specs.Edentype.{Edentype}
use Rattle.journal.specs.World.{Task, Active}

-- an active part: with the queue in its coordinator
pub record Body : Type 0 where
  pub kind : Edentype
  pub vars : List Datum
  pub tasks : List (ℕ × Task)
  pub crew : Coordination

-- the same in the world: there the queue is the Eject's
abbrev pub active_of : Body → Active
active_of b = record { kind = b.kind; vars = b.vars; tasks = b.tasks; crew = b.crew.crew }

-- the calls of these invocations
abbrev pub calls_of : List Invocation → List ℕ
calls_of is = map (λ i. i.call) is
