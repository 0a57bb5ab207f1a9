-- Turns of processes that can be carried out: a type of which one creates an Eject is there, and a step at the monitors is one that the
-- process may take.
use Rattle.std.specs.Prelude.{◌≡◌, ◌≤◌, ℕ, length, Some, slice_get, IsSomeAnd}
use Rattle.capability.specs.declared.Uid.{Uid}
use Rattle.eden_model.specs.Crew.{Crew, Holds, Runs}
use Rattle.epl_syntax.specs.declared.effect.Effect.{Effect}
use Rattle.epl_syntax.specs.declared.effect.Effect.TheVariants as effect
use Rattle.epl_syntax.specs.Meaning.{Turned}
use Rattle.journal.specs.World.{Active, Eject, Site, eject_in}
use Rattle.journal.specs.Processes.{CreatesKnown, turn_of}

-- the condition of this number is there, and the process holds its monitor
abbrev pub HoldsFor : Crew → ℕ → ℕ → Type 0
HoldsFor crew p c = IsSomeAnd (slice_get crew.conditions c) (λ it. Holds crew p it.monitor)

-- What an effect asks of the crew of its process: a monitor that is locked is there, one that is left is held by the process, and so is
-- that of a condition on which it waits, or which it signals.
abbrev pub MayStep : Crew → ℕ → Effect → Type 0
MayStep crew p (effect.Lock m) = (1 ≤ m) × (m ≤ length crew.monitors)
MayStep crew p (effect.Leave m) = Holds crew p m
MayStep crew p (effect.Wait c) = HoldsFor crew p c
MayStep crew p (effect.Signal c) = HoldsFor crew p c
MayStep crew p _ = Unit {0}

-- each process of the Ejects that are active at a site has a turn that can be carried out, once it waits for nothing
pub record TurnsAreFit (s : Site) : Type 0 where
  -- a type of which the turn creates an Eject is one that the site knows
  pub known : (u : Uid) (e : Eject) (it : Active) (p : ℕ) (t : Turned) → eject_in s u ≡ Some e → e.active ≡ Some it
      → turn_of u it p ≡ Some t → CreatesKnown s.types t.effect
  -- a step at the monitors in which the turn ends is one that the process may take
  pub steps : (u : Uid) (e : Eject) (it : Active) (p : ℕ) (t : Turned) → eject_in s u ≡ Some e → e.active ≡ Some it → Runs it.crew p
      → turn_of u it p ≡ Some t → MayStep it.crew p t.effect
