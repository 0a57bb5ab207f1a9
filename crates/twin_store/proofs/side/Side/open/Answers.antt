use Rattle.std.proofs.Common.{subst}
use Rattle.std.specs.Prelude.{Err}
use Rattle.passive_store.specs.Seen.{disk_seen, Opens}
use Rattle.twin_store.proofs.Opened.{opened_ok, opened_failed, opened_damaged, footing_kept}
use Rattle.twin_store.proofs.side.Side.open.Goals as goal

pub returns-in-Ok-clause-opened : goal.returns-in-Ok-clause-opened
returns-in-Ok-clause-opened g c =
    let look = disk_seen g.St.Device.Disk.counts g.St.Device.Disk.told g.St.Device.Disk.due in
    opened_ok g.St.Device.Disk.tells g.St.Device.Disk.obeys g.St.Store.layout c.args.node (look c.args.disk) (g.St.Store.seen c.in-Ok.store)
    c.in-Ok.ensures.opens c.size.ensures.whole

pub returns-in-Failed-clause-opened : goal.returns-in-Failed-clause-opened
returns-in-Failed-clause-opened g c =
    let look = disk_seen g.St.Device.Disk.counts g.St.Device.Disk.told g.St.Device.Disk.due in
    opened_failed g.St.Device.Disk.tells g.St.Device.Disk.obeys g.St.Store.layout c.args.node (look c.args.disk) (look c.in-Err.disk)
    (subst (λ e. Opens g.St.Device.Disk.tells g.St.Device.Disk.obeys g.St.Store.layout c.args.node (Err e) (look c.args.disk)
    (look c.in-Err.disk))
    c.in-Failed.is c.in-Err.ensures.opens) c.size.ensures.whole

pub returns-in-Damaged-clause-opened : goal.returns-in-Damaged-clause-opened
returns-in-Damaged-clause-opened g c =
    let look = disk_seen g.St.Device.Disk.counts g.St.Device.Disk.told g.St.Device.Disk.due in
    opened_damaged g.St.Device.Disk.tells g.St.Device.Disk.obeys g.St.Store.layout c.args.node c.in-Damaged.place (look c.args.disk)
    (look c.in-Err.disk)
    (subst (λ e. Opens g.St.Device.Disk.tells g.St.Device.Disk.obeys g.St.Store.layout c.args.node (Err e) (look c.args.disk)
    (look c.in-Err.disk))
    c.in-Damaged.is c.in-Err.ensures.opens) c.size.ensures.whole

pub returns-in-Stopped-clause-stands : goal.returns-in-Stopped-clause-stands
returns-in-Stopped-clause-stands g c =
    let look = disk_seen g.St.Device.Disk.counts g.St.Device.Disk.told g.St.Device.Disk.due in
    footing_kept g.St.Device.Disk.tells g.St.Device.Disk.obeys g.St.Store.layout c.args.node (Err c.in-Err.refusal) (look c.args.disk)
    (look c.in-Err.disk)
    c.in-Err.ensures.opens c.size.ensures.whole

pub returns-in-Full-clause-stands : goal.returns-in-Full-clause-stands
returns-in-Full-clause-stands g c =
    let look = disk_seen g.St.Device.Disk.counts g.St.Device.Disk.told g.St.Device.Disk.due in
    footing_kept g.St.Device.Disk.tells g.St.Device.Disk.obeys g.St.Store.layout c.args.node (Err c.in-Err.refusal) (look c.args.disk)
    (look c.in-Err.disk)
    c.in-Err.ensures.opens c.size.ensures.whole

pub returns-in-OutOfMemory-clause-stands : goal.returns-in-OutOfMemory-clause-stands
returns-in-OutOfMemory-clause-stands g c =
    let look = disk_seen g.St.Device.Disk.counts g.St.Device.Disk.told g.St.Device.Disk.due in
    footing_kept g.St.Device.Disk.tells g.St.Device.Disk.obeys g.St.Store.layout c.args.node (Err c.in-Err.refusal) (look c.args.disk)
    (look c.in-Err.disk)
    c.in-Err.ensures.opens c.size.ensures.whole
