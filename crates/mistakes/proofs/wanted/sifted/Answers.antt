use Rattle.mistakes.specs.Wanted.{MayStand}
use Rattle.mistakes.proofs.Sifting.{sift_next, short_next, sift_end}
use Rattle.mistakes.proofs.wanted.sifted.Goals as goal

pub loop-sample-preserved : goal.loop-sample-preserved
loop-sample-preserved c = record {
  sifted =
      sift_next (MayStand c.args.before.now) c.args.table.now c.loop-sample.sample-index _ c.loop-sample.found.items _ c.in_ok-holds.holds
      c.loop-sample-test.true c.loop-sample.invariant.sifted c.in_ok-holds.ensures c.in_ok-add_where.ensures;
  short = short_next _ c.args.table.now c.loop-sample.sample-index c.loop-sample-test.true c.loop-sample.invariant.short;
}

pub returns : goal.returns
returns c =
    sift_end (MayStand c.args.before.now) c.args.table.now c.loop-sample.sample-index c.loop-sample.found.items c.loop-sample-test.false
    c.loop-sample.invariant.sifted
