-- A process took its turn, up to its effect.
use Rattle.std.specs.Prelude.{◌≡◌, ℕ, Some, IsSomeAnd}
use Rattle.capability.specs.declared.Uid.{Uid}
use Rattle.eden_model.specs.Crew.{Runs}
use Rattle.epl_syntax.specs.declared.effect.Effect.{Effect}
use Rattle.epl_syntax.specs.Meaning.{Turned}
use Rattle.journal.specs.Processes.{turn_of}
use Rattle.journal.specs.declared.event.Shown.{Shown}
use Rattle.journal.specs.declared.event.Shown.TheVariants as shown
use Rattle.active_part.specs.Body.{Body, active_of}
use Rattle.active_part.specs.Bodies.{turned_body}
use Rattle.active_part.specs.declared.Step.{Step}
use Rattle.active_part.specs.declared.Step.TheVariants.{Lock, Leave, Wait, Signal}
use Rattle.ejects.specs.Parts.{Parts, body_at}
use Rattle.ejects.specs.View.{with_body}

-- from these parts, in which it waits for nothing, to the next ones
pub record HasTurned (u : Uid) (p : ℕ) (e : Effect) (n next : Parts) : Type 0 where
  pub runs : IsSomeAnd (body_at n u) (λ b. Runs b.crew.crew p)
  pub turned : (b : Body) (t : Turned) → body_at n u ≡ Some b → turn_of u (active_of b) p ≡ Some t
      → (e ≡ t.effect) × (next ≡ with_body u (turned_body p t b) n)

-- what is shown of a step at the monitors
abbrev pub shown_step : Step → Shown
shown_step (Lock k) = shown.Lock
shown_step (Leave k) = shown.Leave
shown_step (Wait k) = shown.Wait
shown_step (Signal k) = shown.Signal
