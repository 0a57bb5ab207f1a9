use Rattle.passive_store.specs.Seen.{disk_seen}
use Rattle.std.proofs.Common.{refl}
use Rattle.twin_world.specs.Places.{standing}
use Rattle.twin_world.proofs.Acting.{blanked-first, acts-unblanked, not-blanked}
use Rattle.twin_world.proofs.blank.blank_first.Goals as goal

pub returns-in-Ok : goal.returns-in-Ok
returns-in-Ok g c =
    λ n d is.
    let look = disk_seen g.St.Device.Disk.counts g.St.Device.Disk.told g.St.Device.Disk.due in
    blanked-first g.St.Device.Disk.tells g.St.Store.layout n d (look c.args.first) (look c.args.second) (look c.blank-first.result.0)
    (standing g.St.Store.seen look c.rest.result)
    c.blank-first.result.1 c.in-Ok.how _ c.in-Ok.is is c.blank-first.ensures.faults c.blank-first.ensures.stops c.blank-first.ensures.zeroed
    c.rest.ensures c.blanking-answer.ensures.marked refl c.blanking-answer.ensures.answer

pub returns-in-Err : goal.returns-in-Err
returns-in-Err g c =
    λ n d is.
    let look = disk_seen g.St.Device.Disk.counts g.St.Device.Disk.told g.St.Device.Disk.due in
    acts-unblanked g.St.Device.Disk.tells g.St.Store.layout n d c.in-Err.e (look c.args.first) (look c.args.second)
    (look c.blank-first.result.0) (look c.args.second)
    (not-blanked c.blank-first.result.1 c.in-Err.e _ _ c.in-Err.is c.blank-first.ensures.faults) refl
