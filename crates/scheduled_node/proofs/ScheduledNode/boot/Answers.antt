use Rattle.std.proofs.Common.{sym, subst}
use Rattle.std.proofs.lemmas.Result.{err_from_is_err_and}
use Rattle.ejects.specs.View.{parts_of}
use Rattle.agenda.specs.Keys.{IsAgenda}
use Rattle.eden_kernel.specs.Stands.{held}
use Rattle.scheduled_node.proofs.Standing.{scheduled-boots}
use Rattle.scheduled_node.proofs.ScheduledNode.boot.Goals as goal

pub returns-clause-up : goal.returns-clause-up
returns-clause-up g c = λ so ts m s law epochs more some types asleep carries rests.
    let up = c.in_ok-node.ensures.up so ts m s law epochs more some types asleep carries rests in (
      up,
      subst (λ a. IsAgenda a (parts_of ts c.in_ok-node.node.ejects)) (sym c.new-agenda.ensures)
          (scheduled-boots g.St.Store.layout ts c.args.number more s (g.St.Device.Disk.told c.args.disk)
          (g.St.Device.Disk.counts c.args.disk).clock c.in_ok-node.note (held g.St.Store.seen c.in_ok-node.node) m asleep up),
    )

-- one that did not come up
pub returns-in_err-node-clause-falls : goal.returns-in_err-node-clause-falls
returns-in_err-node-clause-falls g c = λ so.
    let p = err_from_is_err_and c.from_residual.result c.from_residual.ensures.1 in
    rw (p.1, p.2) (c.in_err-node.ensures.falls so)
