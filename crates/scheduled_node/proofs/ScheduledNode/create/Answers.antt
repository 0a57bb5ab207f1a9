use Rattle.std.proofs.Common.{None, subst}
use Rattle.edentypes.specs.View.{kind_in}
use Rattle.eden_kernel.specs.Stands.{held}
use Rattle.agenda.specs.Indexed.{indices_of}
use Rattle.scheduled_node.specs.Others.{is_either}
use Rattle.scheduled_node.proofs.Standing.{Notes, scheduled-creates}
use Rattle.scheduled_node.proofs.ScheduledNode.create.Goals as goal

pub returns-clause-made : goal.returns-clause-made
returns-clause-made g c = λ so m s fresh h.
    let a = indices_of c.args.self.now.agenda in
    let b = indices_of c.note_each.new.self in
    scheduled-creates g.St.Store.layout c.args.types.now (held g.St.Store.seen c.args.self.now.node)
    (held g.St.Store.seen c.create.new.self)
    a b m (kind_in c.args.types.now c.args.kind) c.in_ok-made.made s c.ejects.result.now c.ejects.ensures h
    (c.in_ok-made.ensures.made so m s fresh h.node)
    (subst (λ o. Notes a b (is_either o None) c.ejects.result.now) c.uid_of.ensures c.in_ok-note_each.ensures)
