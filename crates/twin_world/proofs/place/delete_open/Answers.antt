use Rattle.passive_store.specs.Seen.{disk_seen}
use Rattle.twin_store.specs.Twins.{twin_seen}
use Rattle.twin_world.specs.Places.{standing}
use Rattle.twin_world.proofs.Acting.{acts-delete}
use Rattle.twin_world.proofs.place.delete_open.Goals as goal

pub returns : goal.returns
returns g c =
    let look = disk_seen g.St.Device.Disk.counts g.St.Device.Disk.told g.St.Device.Disk.due in
    acts-delete g.St.Device.Disk.tells g.St.Store.layout c.args.n c.args.serial (twin_seen g.St.Store.seen look c.args.twin)
    (twin_seen g.St.Store.seen look c.delete_text-asked.new.twin) (standing g.St.Store.seen look c.changed.result.0)
    c.delete_text-asked.result c.changed.result.1
    c.delete_text-asked.ensures.goes c.delete_text-asked.ensures.full c.delete_text-asked.ensures.first c.delete_text-asked.ensures.second
    c.delete_text-asked.ensures.steps
    c.changed.ensures.place c.changed.ensures.done
