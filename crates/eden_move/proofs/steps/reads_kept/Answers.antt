use Rattle.eden_move.proofs.Going.{goes-read}
use Rattle.passive_store.specs.Kept.{body_at}
use Rattle.eden_move.proofs.steps.reads_kept.Goals as goal

pub returns-clause-goes : goal.returns-clause-goes
returns-clause-goes g c = goes-read _ _ c.get.result c.get.ensures.calls (body_at (g.St.Store.seen c.get.new.self).kept c.key_of.result)
    (g.St.Store.seen c.args.store.now) (g.St.Store.seen c.get.new.self) c.requires.idle c.get.ensures.ran c.get.ensures.by_layout
    c.get.ensures.goes.stands

pub returns-clause-room : goal.returns-clause-room
returns-clause-room g c tells = record {
  node = c.get.ensures.goes.node;
  size = c.get.ensures.ran.counts.size;
  more = c.get.ensures.more;
  pick = (g.St.Store.seen c.get.new.self).picked;
  kept = c.get.ensures.kept tells;
}

pub returns-clause-more : goal.returns-clause-more
returns-clause-more g c = c.get.ensures.more
