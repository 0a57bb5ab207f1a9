-- What is shown of a turn tells its effect.
use Rattle.std.proofs.Common.{◌≡◌, Option, None, Some, Result, Ok, Err, refl}
use Rattle.capability.specs.declared.Uid.{Uid}
use Rattle.eden_value.specs.declared.status.Status.{Status}
use Rattle.eden_model.specs.Crew.{Invocation}
use Rattle.epl_syntax.specs.declared.effect.Effect.{Effect}
use Rattle.epl_syntax.specs.declared.effect.Effect.TheVariants as effect
use Rattle.journal.specs.declared.event.Shown.TheVariants as shown
use Rattle.journal.specs.World.{Site}
use Rattle.journal.specs.Ejects.{next_uid}
use Rattle.journal.specs.Processes.{shown_of, shown_creation}

-- a turn that shows a yield has that effect
pub yields : (s : Site) (i : Option Invocation) (f : Effect) → shown.Yield ≡ shown_of s i f → f ≡ effect.Yield
yields s i effect.Yield is = refl
yields s None (effect.Return results) is = absurd (cc is)
yields s (Some k) (effect.Return results) is = absurd (cc is)
yields s i (effect.Create name) is = absurd (no_creation (next_uid s) is)
  where
    no_creation : (r : Result Uid Status) → shown.Yield ≡ shown_creation r → ⊥
    no_creation (Ok v) is = cc is
    no_creation (Err why) is = cc is
yields s i effect.Checkpoint is = absurd (cc is)
yields s i effect.Deactivate is = absurd (cc is)
yields s i effect.Destroy is = absurd (cc is)
yields s i effect.End is = absurd (cc is)
yields s i (effect.Fault cause) is = absurd (cc is)
yields s i (effect.Invoke target operation args) is = absurd (cc is)
yields s i (effect.Lock m) is = absurd (cc is)
yields s i (effect.Leave m) is = absurd (cc is)
yields s i (effect.Wait c) is = absurd (cc is)
yields s i (effect.Signal c) is = absurd (cc is)
