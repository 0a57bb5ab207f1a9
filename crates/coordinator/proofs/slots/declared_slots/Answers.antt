use Rattle.std.proofs.Common.{refl, ◌∙◌, ap, ◌+◌}
use Rattle.std.proofs.lemmas.List.{length_push}
use Rattle.coordinator.proofs.Table.{declared-pushed}
use Rattle.coordinator.proofs.slots.declared_slots.Goals as goal

pub loop-number-preserved : goal.loop-number-preserved
loop-number-preserved c = record {
  slots = rw c.push_reserved.ensures.items (declared-pushed c.loop-number.slots.items _ c.loop-number.number c.args.declared
      c.loop-number-test.true refl c.loop-number.invariant.slots);
  count = rw c.push_reserved.ensures.items (length_push c.loop-number.slots.items _ ∙ ap (λ n. n + 1) c.loop-number.invariant.count);
  room = rw c.push_reserved.ensures.capacity c.loop-number.invariant.room;
}
