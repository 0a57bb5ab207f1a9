use Rattle.eden_kernel.proofs.Showing.{shows-armed}
use Rattle.eden_kernel.proofs.Node.arm.Goals as goal

pub returns-clause-shows : goal.returns-clause-shows
returns-clause-shows g c = shows-armed g.St.Device.Disk.obeys c.args.self.now.number c.args.what
    (g.St.Store.seen c.args.self.now.store).disk
    (g.St.Store.seen c.arm.new.store).disk c.arm.ensures.counts c.arm.ensures.due
