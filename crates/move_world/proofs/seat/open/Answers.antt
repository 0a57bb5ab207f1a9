use Rattle.std.proofs.Common.{sym}
use Rattle.passive_store.specs.Seen.{disk_seen}
use Rattle.move_world.proofs.Seating.{opened-ok, opened-err}
use Rattle.std.proofs.Common.{ap}
use Rattle.move_world.specs.Asking.{manned}
use Rattle.move_world.specs.Counting.{refusals_in}
use Rattle.move_world.proofs.Counts.{counted-up, counted-down}
use Rattle.move_world.proofs.seat.open.Goals as goal

pub returns-in-Ok-clause-opened : goal.returns-in-Ok-clause-opened
returns-in-Ok-clause-opened g c = λ so w rests.
    opened-ok g.St.Store.seen (disk_seen g.St.Device.Disk.counts g.St.Device.Disk.told g.St.Device.Disk.due) g.St.Device.Disk.tells
    g.St.Device.Disk.obeys g.St.Store.layout c.args.n c.in-Ok.node
    (disk_seen g.St.Device.Disk.counts g.St.Device.Disk.told g.St.Device.Disk.due c.restart.new.self) (g.St.Device.Disk.told c.args.disk)
    so (sym c.restart.ensures.told) (c.size.ensures.whole so)
    c.in-Ok.ensures.opens c.in-Ok.ensures.shows w rests

pub returns-in-Err-clause-opened : goal.returns-in-Err-clause-opened
returns-in-Err-clause-opened g c = λ so w rests.
    opened-err g.St.Device.Disk.tells g.St.Device.Disk.obeys g.St.Store.layout c.args.n c.in-Err.refusal c.down.result
    (disk_seen g.St.Device.Disk.counts g.St.Device.Disk.told g.St.Device.Disk.due c.restart.new.self) (disk_seen g.St.Device.Disk.counts
    g.St.Device.Disk.told g.St.Device.Disk.due c.in-Err.disk) (g.St.Device.Disk.told c.args.disk) so (sym c.restart.ensures.told)
    (c.size.ensures.whole so) c.in-Err.ensures.opens c.down.ensures w rests

pub returns-in-Ok-clause-counted : goal.returns-in-Ok-clause-counted
returns-in-Ok-clause-counted g c =
    let look = disk_seen g.St.Device.Disk.counts g.St.Device.Disk.told g.St.Device.Disk.due in
    counted-up c.in-Ok.ensures.opens.made (look c.args.disk) (look c.restart.new.self) (manned g.St.Store.seen c.in-Ok.node)
    (ap refusals_in c.restart.ensures.counts) c.in-Ok.ensures.opens.counts

pub returns-in-Err-clause-counted : goal.returns-in-Err-clause-counted
returns-in-Err-clause-counted g c =
    let look = disk_seen g.St.Device.Disk.counts g.St.Device.Disk.told g.St.Device.Disk.due in
    counted-down c.in-Err.ensures.opens.made c.in-Err.refusal c.down.result (look c.args.disk) (look c.restart.new.self) (look c.in-Err.disk)
    (ap refusals_in c.restart.ensures.counts) c.in-Err.ensures.opens.counts c.down.ensures
