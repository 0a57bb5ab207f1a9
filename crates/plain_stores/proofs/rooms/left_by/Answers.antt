use Rattle.std.proofs.Common.{arith}
use Rattle.plain_stores.proofs.LeftBlocks.{left-more}
use Rattle.plain_stores.proofs.rooms.left_by.Goals as goal

pub loop-entry-preserved : goal.loop-entry-preserved
loop-entry-preserved c = (
  λ ts. left-more ts c.loop-entry.entry-index c.args.entries.now c.entry-item.result c.loop-entry.left c.blocks_of.result
      c.saturating_sub-left.result _ (omega (arith, c.loop-entry-test.true)) c.entry-item.is
      c.blocks_of.ensures c.saturating_sub-left.ensures
      (c.loop-entry.invariant.0 ts),
  omega (arith, c.saturating_sub-left.ensures, c.loop-entry.invariant.1),
)
