use Rattle.std.proofs.Common.{refl, ap}
use Rattle.passive_store.specs.Seen.{disk_seen}
use Rattle.twin_world.specs.Commands.{puts}
use Rattle.twin_world.specs.Places.{standing}
use Rattle.twin_world.specs.View.{answer_of}
use Rattle.twin_world.specs.declared.place.Place.TheVariants as place
use Rattle.twin_world.proofs.Acting.{acts-at, wrong-open, never-open, open-node, open-ready}
use Rattle.twin_world.proofs.place.put_place.Goals as goal

pub put_open-requires-clause-ready : goal.put_open-requires-clause-ready
put_open-requires-clause-ready g c =
    let look = disk_seen g.St.Device.Disk.counts g.St.Device.Disk.told g.St.Device.Disk.due in
    open-ready g.St.Store.seen look c.args.n c.args.place c.in-Open.twin c.in-Open.is c.requires.sound

pub put_open-requires-clause-node : goal.put_open-requires-clause-node
put_open-requires-clause-node g c =
    let look = disk_seen g.St.Device.Disk.counts g.St.Device.Disk.told g.St.Device.Disk.due in
    open-node g.St.Store.seen look c.args.n c.args.place c.in-Open.twin c.in-Open.is c.requires.sound

pub returns-in-Open : goal.returns-in-Open
returns-in-Open g c =
    let look = disk_seen g.St.Device.Disk.counts g.St.Device.Disk.told g.St.Device.Disk.due in
    acts-at g.St.Store.seen look g.St.Device.Disk.tells g.St.Store.layout c.args.n (puts c.args.n c.args.serial c.args.text.now)
    c.put_open.result.1 c.args.place
    (place.Open c.in-Open.twin) (standing g.St.Store.seen look c.put_open.result.0) c.in-Open.is c.put_open.ensures

pub returns-in_default : goal.returns-in_default
returns-in_default g c =
    let look = disk_seen g.St.Device.Disk.counts g.St.Device.Disk.told g.St.Device.Disk.due in
    wrong-open g.St.Device.Disk.tells g.St.Store.layout c.args.n (puts c.args.n c.args.serial c.args.text.now) c.plain.result
    (standing g.St.Store.seen look c.args.place) refl
    (ap answer_of c.plain.ensures.answer) c.plain.ensures.first c.plain.ensures.second
    (never-open g.St.Store.seen look c.args.place c.in_default.not-Open)
