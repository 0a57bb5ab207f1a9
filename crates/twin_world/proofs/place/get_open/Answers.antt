use Rattle.passive_store.specs.Seen.{disk_seen}
use Rattle.twin_store.specs.Twins.{twin_seen}
use Rattle.twin_world.specs.Places.{standing}
use Rattle.twin_world.proofs.Acting.{acts-get}
use Rattle.twin_world.proofs.place.get_open.Goals as goal

pub returns : goal.returns
returns g c =
    let look = disk_seen g.St.Device.Disk.counts g.St.Device.Disk.told g.St.Device.Disk.due in
    acts-get g.St.Device.Disk.tells g.St.Store.layout c.args.n c.args.serial (twin_seen g.St.Store.seen look c.args.twin)
    (twin_seen g.St.Store.seen look c.get_text-asked.new.twin) (standing g.St.Store.seen look c.looked.result.0) c.get_text-asked.result
    c.looked.result.1
    c.get_text-asked.ensures.goes c.get_text-asked.ensures.full c.get_text-asked.ensures.first c.get_text-asked.ensures.second
    c.get_text-asked.ensures.steps
    c.looked.ensures.place c.looked.ensures.done
