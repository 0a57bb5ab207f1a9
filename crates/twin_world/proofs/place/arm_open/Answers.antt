use Rattle.passive_store.specs.Seen.{disk_seen}
use Rattle.twin_store.specs.Twins.{twin_seen}
use Rattle.twin_world.proofs.Acting.{asked-open}
use Rattle.twin_world.proofs.place.arm_open.Goals as goal

pub returns : goal.returns
returns g c =
    let look = disk_seen g.St.Device.Disk.counts g.St.Device.Disk.told g.St.Device.Disk.due in
    asked-open g.St.Device.Disk.tells g.St.Device.Disk.obeys c.args.second_one c.args.what (twin_seen g.St.Store.seen look c.args.twin)
    (twin_seen g.St.Store.seen look c.arm.new.self) c.arm.ensures
