use Rattle.std.proofs.lemmas.Result.{on_ok_weaker}
use Rattle.eden_kernel.specs.Stands.{held}
use Rattle.agenda.specs.Indexed.{indices_of}
use Rattle.scheduled_node.proofs.Standing.{scheduled-told}
use Rattle.scheduled_node.proofs.ScheduledNode.broken.Goals as goal

pub returns-clause-told : goal.returns-clause-told
returns-clause-told g c = λ so. on_ok_weaker c.note_each.result (λ noted ts m s some h.
    scheduled-told g.St.Store.layout ts (held g.St.Store.seen c.args.self.now.node) (held g.St.Store.seen c.broken.new.self)
    (indices_of c.args.self.now.agenda) (indices_of c.note_each.new.self) m c.args.uid c.args.process s c.ejects.result.now c.ejects.ensures
    h (c.broken.ensures.told so ts m s some h.node) noted) c.note_each.ensures

pub returns-clause-stands : goal.returns-clause-stands
returns-clause-stands g c = λ so. on_ok_weaker c.note_each.result (λ noted. c.broken.ensures.told so) c.note_each.ensures
