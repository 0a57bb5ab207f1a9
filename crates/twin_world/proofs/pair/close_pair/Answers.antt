use Rattle.passive_store.specs.Seen.{disk_seen}
use Rattle.twin_store.specs.Twins.{twin_seen}
use Rattle.twin_world.proofs.Asking.{closed-as}
use Rattle.twin_world.proofs.pair.close_pair.Goals as goal

pub returns : goal.returns
returns g c =
    let look = disk_seen g.St.Device.Disk.counts g.St.Device.Disk.told g.St.Device.Disk.due in
    record { steps = closed-as g.St.Store.layout (twin_seen g.St.Store.seen look c.args.twin) _ _ c.close.ensures.0 c.close.ensures.1 }
