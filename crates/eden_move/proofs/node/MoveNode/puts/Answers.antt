use Rattle.eden_move.specs.Minds.{remembered, memory_seen}
use Rattle.eden_move.specs.Records.{seen_record}
use Rattle.eden_move.proofs.Carrying.{put-done}
use Rattle.eden_move.proofs.node.MoveNode.puts.Goals as goal

pub returns-in-Ok-clause-acts : goal.returns-in-Ok-clause-acts
returns-in-Ok-clause-acts g c tells fits mind x s post =
    let p = c.in-Ok.ensures.put tells fits x s in
    put-done c.args.uid (seen_record c.args.record) (memory_seen c.args.memory) x (g.St.Store.seen c.put.new.self.store)
    (remembered c.put.new.self.mind) (remembered c.learn.new.self) p.0 mind c.learn.ensures p.1 post

pub returns-in-Ok-clause-goes : goal.returns-in-Ok-clause-goes
returns-in-Ok-clause-goes g c = c.in-Ok.ensures.goes

pub returns-in-Ok-clause-full : goal.returns-in-Ok-clause-full
returns-in-Ok-clause-full g c = c.in-Ok.ensures.full
