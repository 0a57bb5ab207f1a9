use Rattle.std.proofs.Common.{map, refl, sym, ◌∙◌}
use Rattle.coordinator.proofs.Table.{taken-slots}
use Rattle.eden_model.proofs.FreeNumbers.{free-more, free-here}
use Rattle.eden_model.specs.Crew.{least_number}
use Rattle.coordinator.specs.View.{process_of}
use Rattle.coordinator.proofs.slots.least_free.Goals as goal

pub returns-then-not-has_number : goal.returns-then-not-has_number
unfolding least_number
returns-then-not-has_number c =
    sym (c.loop-number.invariant ∙ free-here c.loop-number.number (map process_of c.args.slots.now) c.loop-number-test.true
    (sym (taken-slots c.loop-number.number c.args.slots.now) ∙ sym c.has_number.ensures ∙ c.if-not-has_number.true))

pub loop-number-preserved : goal.loop-number-preserved
unfolding least_number
loop-number-preserved c =
    c.loop-number.invariant ∙ free-more c.loop-number.number (map process_of c.args.slots.now) c.loop-number-test.true
    (sym (taken-slots c.loop-number.number c.args.slots.now) ∙ sym c.has_number.ensures ∙ c.if-not-has_number.false)

pub loop-number-init : goal.loop-number-init
unfolding least_number
loop-number-init c = refl
