use Rattle.eden_kernel.specs.Stands.{held}
use Rattle.agenda.specs.Indexed.{indices_of}
use Rattle.scheduled_node.proofs.Standing.{scheduled-armed}
use Rattle.scheduled_node.proofs.ScheduledNode.arm.Goals as goal

pub returns-clause-stands : goal.returns-clause-stands
returns-clause-stands g c = λ so ts m s h.
    scheduled-armed g.St.Store.layout ts (held g.St.Store.seen c.args.self.now.node) (held g.St.Store.seen c.arm.new.self)
    (indices_of c.args.self.now.agenda) (indices_of c.args.self.now.agenda) m s h (c.arm.ensures.stands so ts m s h.node)
