use Rattle.passive_store.specs.Seen.{disk_seen}
use Rattle.std.proofs.Common.{refl}
use Rattle.twin_world.specs.Places.{standing}
use Rattle.twin_world.proofs.Acting.{blanked-second, acts-unblanked, not-blanked}
use Rattle.twin_world.proofs.blank.blank_second.Goals as goal

pub returns-in-Ok : goal.returns-in-Ok
returns-in-Ok g c =
    λ n d is.
    let look = disk_seen g.St.Device.Disk.counts g.St.Device.Disk.told g.St.Device.Disk.due in
    blanked-second g.St.Device.Disk.tells g.St.Store.layout n d (look c.args.first) (look c.args.second) (look c.blank-second.result.0)
    (standing g.St.Store.seen look c.rest.result)
    c.blank-second.result.1 c.in-Ok.how _ c.in-Ok.is is c.blank-second.ensures.faults c.blank-second.ensures.stops
    c.blank-second.ensures.zeroed
    c.rest.ensures refl c.blanking-answer.ensures.marked c.blanking-answer.ensures.answer

pub returns-in-Err : goal.returns-in-Err
returns-in-Err g c =
    λ n d is.
    let look = disk_seen g.St.Device.Disk.counts g.St.Device.Disk.told g.St.Device.Disk.due in
    acts-unblanked g.St.Device.Disk.tells g.St.Store.layout n d c.in-Err.e (look c.args.first) (look c.args.second) (look c.args.first)
    (look c.blank-second.result.0)
    refl (not-blanked c.blank-second.result.1 c.in-Err.e _ _ c.in-Err.is c.blank-second.ensures.faults)
