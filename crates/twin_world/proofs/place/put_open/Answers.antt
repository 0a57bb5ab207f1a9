use Rattle.passive_store.specs.Seen.{disk_seen}
use Rattle.twin_store.specs.Twins.{twin_seen}
use Rattle.twin_world.specs.Places.{standing}
use Rattle.twin_world.proofs.Acting.{acts-put, acts-full}
use Rattle.std.proofs.Common.{ap}
use Rattle.twin_world.specs.View.{answer_of}
use Rattle.twin_world.proofs.place.put_open.Goals as goal

pub returns-then-not-has_room : goal.returns-then-not-has_room
returns-then-not-has_room g c =
    let look = disk_seen g.St.Device.Disk.counts g.St.Device.Disk.told g.St.Device.Disk.due in
    acts-full g.St.Device.Disk.tells g.St.Store.layout c.args.n c.args.serial c.args.text.now c.plain.result
    (twin_seen g.St.Store.seen look c.args.twin)
    (ap answer_of c.plain.ensures.answer) c.plain.ensures.first c.plain.ensures.second (c.has_room.ensures.no c.if-not-has_room.true)

pub returns : goal.returns
returns g c =
    let look = disk_seen g.St.Device.Disk.counts g.St.Device.Disk.told g.St.Device.Disk.due in
    acts-put g.St.Device.Disk.tells g.St.Store.layout c.args.n c.args.serial (twin_seen g.St.Store.seen look c.args.twin)
    (twin_seen g.St.Store.seen look c.put_text-asked.new.twin) (standing g.St.Store.seen look c.changed.result.0) c.args.text.now
    c.put_text-asked.result c.changed.result.1
    c.put_text-asked.ensures.goes c.put_text-asked.ensures.full c.put_text-asked.ensures.first c.put_text-asked.ensures.second
    c.put_text-asked.ensures.steps
    c.changed.ensures.place c.changed.ensures.done
