use Rattle.std.proofs.Common.{refl, ap}
use Rattle.passive_store.specs.Seen.{disk_seen}
use Rattle.std.specs.Prelude.{Ok}
use Rattle.twin_world.specs.Commands.{closes}
use Rattle.twin_store.specs.Twins.{twin_seen}
use Rattle.twin_world.specs.Places.{standing, Resting}
use Rattle.twin_world.specs.View.{answer_of}
use Rattle.twin_world.specs.declared.place.Place.TheVariants as place
use Rattle.twin_world.proofs.Acting.{acts-at, acts-closed, wrong-open, never-open}
use Rattle.twin_world.proofs.place.close_place.Goals as goal

pub returns-in-Open : goal.returns-in-Open
returns-in-Open g c =
    λ n.
    let look = disk_seen g.St.Device.Disk.counts g.St.Device.Disk.told g.St.Device.Disk.due in
    acts-at g.St.Store.seen look g.St.Device.Disk.tells g.St.Store.layout n (closes n) (Ok c.plain.result) c.args.place
    (place.Open c.in-Open.twin)
    (Resting (look c.close-first.result.0) (look c.close-first.result.1)) c.in-Open.is
    (acts-closed g.St.Device.Disk.tells g.St.Store.layout n (twin_seen g.St.Store.seen look c.in-Open.twin) (look c.close-first.result.0)
    (look c.close-first.result.1)
    c.plain.result c.close-first.ensures.0 c.close-first.ensures.1 (ap answer_of c.plain.ensures.answer) c.plain.ensures.first
    c.plain.ensures.second)

pub returns-in_default : goal.returns-in_default
returns-in_default g c =
    λ n.
    let look = disk_seen g.St.Device.Disk.counts g.St.Device.Disk.told g.St.Device.Disk.due in
    wrong-open g.St.Device.Disk.tells g.St.Store.layout n (closes n) c.plain-in_default.result
    (standing g.St.Store.seen look c.args.place) refl
    (ap answer_of c.plain-in_default.ensures.answer) c.plain-in_default.ensures.first c.plain-in_default.ensures.second
    (never-open g.St.Store.seen look c.args.place c.in_default.not-Open)
