use Rattle.std.proofs.Common.{refl, ap}
use Rattle.passive_store.specs.Seen.{disk_seen}
use Rattle.twin_world.specs.Commands.{opens}
use Rattle.twin_world.specs.Places.{standing}
use Rattle.twin_world.specs.View.{answer_of}
use Rattle.twin_world.specs.declared.place.Place.TheVariants as place
use Rattle.twin_world.proofs.Acting.{acts-at, wrong-closed, never-rest}
use Rattle.twin_world.proofs.place.open_place.Goals as goal

pub returns-in-Rest : goal.returns-in-Rest
returns-in-Rest g c =
    let look = disk_seen g.St.Device.Disk.counts g.St.Device.Disk.told g.St.Device.Disk.due in
    acts-at g.St.Store.seen look g.St.Device.Disk.tells g.St.Store.layout c.args.n (opens c.args.n) c.open_disks.result.1 c.args.place
    (place.Rest c.in-Rest.first c.in-Rest.second) (standing g.St.Store.seen look c.open_disks.result.0) c.in-Rest.is c.open_disks.ensures

pub returns-in_default : goal.returns-in_default
returns-in_default g c =
    let look = disk_seen g.St.Device.Disk.counts g.St.Device.Disk.told g.St.Device.Disk.due in
    wrong-closed g.St.Device.Disk.tells g.St.Store.layout c.args.n (opens c.args.n) c.plain.result
    (standing g.St.Store.seen look c.args.place) refl
    (ap answer_of c.plain.ensures.answer) c.plain.ensures.first c.plain.ensures.second
    (never-rest g.St.Store.seen look c.args.place c.in_default.not-Rest)
