use Rattle.std.proofs.Common.{refl, subst}
use Rattle.std.specs.Prelude.{IfSome}
use Rattle.checkpoint.specs.Starting.{StartsWith, values_of}
use Rattle.journal.specs.declared.event.StartEnd.TheVariants as end
use Rattle.eden_kernel.specs.DiskTurns.{begun_as}
use Rattle.eden_kernel.proofs.activations.activation_ends.Goals as goal

pub returns-in_ok-wake-in-Values-clause-turn : goal.returns-in_ok-wake-in-Values-clause-turn
returns-in_ok-wake-in-Values-clause-turn c = λ reach s p sound up allowed values at.
    c.in_ok-wake-in-Values.ensures.turn reach s p sound allowed
    (subst (λ w. IfSome (values_of (begun_as c.args.types.now) w) (StartsWith s c.args.uid p)) c.in-Values.is values) at

pub returns-in_ok-turn_away-in-Gone-clause-turn : goal.returns-in_ok-turn_away-in-Gone-clause-turn
returns-in_ok-turn_away-in-Gone-clause-turn c = λ reach s p sound up allowed values at.
    c.in_ok-turn_away-in-Gone.ensures.turn c.args.types.now reach s end.Gone p sound allowed refl at

pub returns-in_ok-turn_away-in-Fault-clause-turn : goal.returns-in_ok-turn_away-in-Fault-clause-turn
returns-in_ok-turn_away-in-Fault-clause-turn c = λ reach s p sound up allowed values at.
    c.in_ok-turn_away-in-Fault.ensures.turn c.args.types.now reach s end.Fault p sound allowed refl at

pub returns-in_ok-turn_away-in-Damaged-clause-turn : goal.returns-in_ok-turn_away-in-Damaged-clause-turn
returns-in_ok-turn_away-in-Damaged-clause-turn c = λ reach s p sound up allowed values at.
    c.in_ok-turn_away-in-Damaged.ensures.turn c.args.types.now reach s end.Damaged p sound allowed refl at
