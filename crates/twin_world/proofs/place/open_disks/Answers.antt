use Rattle.std.proofs.Common.{ap, refl}
use Rattle.passive_store.specs.Seen.{disk_seen}
use Rattle.twin_store.specs.Twins.{twin_seen}
use Rattle.twin_world.specs.View.{answer_of}
use Rattle.twin_world.specs.Places.{standing}
use Rattle.twin_world.proofs.Acting.{acts-opened, acts-shut, noted-by}
use Rattle.twin_world.proofs.place.open_disks.Goals as goal

pub returns-in-Ok : goal.returns-in-Ok
returns-in-Ok g c =
    let look = disk_seen g.St.Device.Disk.counts g.St.Device.Disk.told g.St.Device.Disk.due in
    acts-opened g.St.Device.Disk.tells g.St.Store.layout c.args.n (look c.args.first) (look c.args.second) (look c.woken-first.result)
    (look c.woken-second.result)
    (twin_seen g.St.Store.seen look c.in-Ok.twin) (standing g.St.Store.seen look c.opened-place.result.0) c.opened-place.result.1
    c.woken-first.ensures c.woken-second.ensures c.in-Ok.ensures.opened c.opened-place.ensures.place
    (ap answer_of c.opened-place.ensures.answer)
    (noted-by c.opened-place.result.1.first_failed _ _ _ _ c.faults-first_before.ensures refl c.opened-place.ensures.first)
    (noted-by c.opened-place.result.1.second_failed _ _ _ _ c.faults-second_before.ensures refl c.opened-place.ensures.second)

pub returns-in-Err : goal.returns-in-Err
returns-in-Err g c =
    let look = disk_seen g.St.Device.Disk.counts g.St.Device.Disk.told g.St.Device.Disk.due in
    acts-shut g.St.Device.Disk.tells g.St.Store.layout c.args.n (look c.args.first) (look c.args.second) (look c.woken-first.result)
    (look c.woken-second.result)
    (look c.in-Err.first) (look c.in-Err.second) (standing g.St.Store.seen look c.rest.result) c.in-Err.refusal c.rose-first_failed.result
    c.rose-second_failed.result c.refused.result c.woken-first.ensures c.woken-second.ensures c.in-Err.ensures.vouched c.in-Err.ensures.lost
    c.in-Err.ensures.counts c.in-Err.ensures.stopped c.rest.ensures
    (noted-by c.rose-first_failed.result _ _ _ _ c.faults-first_before.ensures c.faults-first_now.ensures c.rose-first_failed.ensures)
    (noted-by c.rose-second_failed.result _ _ _ _ c.faults-second_before.ensures c.faults-second_now.ensures c.rose-second_failed.ensures)
    c.refused.ensures.answer c.refused.ensures.first c.refused.ensures.second c.refused.ensures.memory
