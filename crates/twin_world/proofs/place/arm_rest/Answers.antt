use Rattle.passive_store.specs.Seen.{disk_seen}
use Rattle.twin_world.proofs.Acting.{asked-first, asked-second}
use Rattle.twin_world.proofs.place.arm_rest.Goals as goal

pub returns-then-second_one : goal.returns-then-second_one
returns-then-second_one g c =
    let look = disk_seen g.St.Device.Disk.counts g.St.Device.Disk.told g.St.Device.Disk.due in
    asked-second g.St.Device.Disk.tells (look c.args.first) (look c.args.second) (look c.armed.result) c.armed.ensures

pub returns-else-second_one : goal.returns-else-second_one
returns-else-second_one g c =
    let look = disk_seen g.St.Device.Disk.counts g.St.Device.Disk.told g.St.Device.Disk.due in
    asked-first g.St.Device.Disk.tells (look c.args.first) (look c.args.second) (look c.armed-else-second_one.result)
    c.armed-else-second_one.ensures
