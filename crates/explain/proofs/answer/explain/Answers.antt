use Rattle.std.proofs.Common.{rules}
use Rattle.explain.specs.Endings.{reading, writing}
use Rattle.explain.proofs.Endings.{written}
use Rattle.explain.proofs.answer.explain.Goals as goal

pub returns-in-Ok-write_all : goal.returns-in-Ok-write_all
returns-in-Ok-write_all g c =
    written c.args.asked
    (reading g.S.Source.left g.S.Source.ended g.S.Source.faults c.args.source.now c.what_is_due.new.source)
    (writing g.K.Sink.written g.K.Sink.faults c.args.sink.now c.write_all.new.sink)
    c.in-Ok.due.ending c.deref.result.now c.in-Ok.due.text.items (search rules) c.in-Ok.ensures c.in-Ok-write_all.ensures.all
