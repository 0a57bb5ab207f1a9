use Rattle.std.proofs.Common.{refl, arith}
use Rattle.coordinator.proofs.Table.{pairs-more}
use Rattle.coordinator.proofs.slots.served_pairs.Goals as goal

pub loop-i-preserved : goal.loop-i-preserved
loop-i-preserved c = record {
  pairs = rw (
    c.push_pair.ensures.pairs,
    c.loop-i.invariant.pairs,
    pairs-more c.args.slots.now.items c.loop-i.i c.index-slot.result.now
        (omega (arith, c.loop-i-test.true, c.len-i-end.ensures)),
    ← c.index-slot.ensures,
  ) refl;
  few = omega (arith, c.push_pair.ensures.few, c.loop-i.invariant.few);
}
