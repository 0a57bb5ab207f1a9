use Rattle.passive_store.specs.Seen.{disk_seen}
use Rattle.twin_store.specs.Twins.{twin_seen}
use Rattle.twin_store.specs.Sides.{disk_of}
use Rattle.twin_world.specs.Places.{standing}
use Rattle.twin_world.proofs.Acting.{left-by}
use Rattle.twin_world.proofs.place.shut.Goals as goal

pub returns : goal.returns
returns g c =
    let look = disk_seen g.St.Device.Disk.counts g.St.Device.Disk.told g.St.Device.Disk.due in
    let t = twin_seen g.St.Store.seen look c.args.twin in
    left-by g.St.Device.Disk.tells (look c.close-first.result.0) (look c.close-first.result.1) (disk_of t.first) (disk_of t.second)
    (standing g.St.Store.seen look c.rest.result) c.close-first.ensures.0 c.close-first.ensures.1 c.rest.ensures
