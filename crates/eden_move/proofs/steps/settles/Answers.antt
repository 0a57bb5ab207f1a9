use Rattle.eden_move.proofs.Stepped.{settle-both}
use Rattle.eden_move.proofs.Going.{goes-settle}
use Rattle.eden_move.proofs.steps.settles.Goals as goal

pub returns-clause-settled : goal.returns-clause-settled
returns-clause-settled g c tells m x s = settle-both c.settle.result (g.St.Store.seen c.args.store.now)
    (g.St.Store.seen c.settle.new.self) m x
    c.settle.ensures.goes.node c.requires.idle c.settle.ensures.only c.settle.ensures.refused c.settle.ensures.picked c.settle.ensures.work
    (c.settle.ensures.kept tells) s

pub returns-clause-goes : goal.returns-clause-goes
returns-clause-goes g c = goes-settle _ _ c.settle.result _ _ c.settle.ensures.ran c.settle.ensures.goes.stands

pub returns-clause-room : goal.returns-clause-room
returns-clause-room g c tells = record {
  node = c.settle.ensures.goes.node;
  size = c.settle.ensures.ran.counts.size;
  more = c.settle.ensures.more;
  pick = (g.St.Store.seen c.settle.new.self).picked;
  kept = c.settle.ensures.kept tells;
}

pub returns-clause-more : goal.returns-clause-more
returns-clause-more g c = c.settle.ensures.more
