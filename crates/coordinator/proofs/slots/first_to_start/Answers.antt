use Rattle.std.proofs.Common.{refl, sym, ◌∙◌, ◌+◌, arith}
use Rattle.coordinator.specs.Fields.{next_serving}
use Rattle.coordinator.specs.View.{invocation_of}
use Rattle.coordinator.proofs.Queues.{found-here, found-later, found-none}
use Rattle.coordinator.proofs.slots.first_to_start.Goals as goal

pub loop-place-init : goal.loop-place-init
loop-place-init c = refl

pub loop-place-preserved : goal.loop-place-preserved
loop-place-preserved c =
    sym (found-later (next_serving c.args.slots.now c.args.limits.now) c.args.queued.now c.loop-place.place (c.loop-place.place + 1)
    (invocation_of c.at-serving.result) (omega arith) c.at-serving.ensures
    (sym c.may_start.ensures ∙ c.if-may_start.false)) ∙ c.loop-place.invariant

pub returns-then-may_start : goal.returns-then-may_start
returns-then-may_start c =
    sym (found-here (next_serving c.args.slots.now c.args.limits.now) c.args.queued.now c.loop-place.place
    (invocation_of c.at-serving.result) c.at-serving.ensures
    (sym c.may_start.ensures ∙ c.if-may_start.true)) ∙ c.loop-place.invariant

pub returns : goal.returns
returns c = sym (found-none (next_serving c.args.slots.now c.args.limits.now) c.args.queued.now c.loop-place.place
    (omega (arith, c.len-place-end.ensures, c.loop-place-test.false))) ∙ c.loop-place.invariant
