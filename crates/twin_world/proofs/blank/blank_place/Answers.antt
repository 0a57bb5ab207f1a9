use Rattle.passive_store.specs.Seen.{disk_seen}
use Rattle.std.proofs.Common.{refl, ap, ◌∙◌}
use Rattle.twin_world.specs.Commands.{blanks}
use Rattle.twin_world.specs.Places.{standing}
use Rattle.twin_world.specs.View.{answer_of}
use Rattle.twin_world.specs.declared.place.Place.TheVariants as place
use Rattle.twin_world.proofs.Acting.{acts-at, wrong-closed, never-rest}
use Rattle.twin_world.proofs.blank.blank_place.Goals as goal

pub returns-then-second_one : goal.returns-then-second_one
returns-then-second_one g c =
    λ n d is.
    let look = disk_seen g.St.Device.Disk.counts g.St.Device.Disk.told g.St.Device.Disk.due in
    acts-at g.St.Store.seen look g.St.Device.Disk.tells g.St.Store.layout n (blanks d) c.blank_second.result.1 c.args.place
    (place.Rest c.in-Rest.first c.in-Rest.second)
    (standing g.St.Store.seen look c.blank_second.result.0) c.in-Rest.is (c.blank_second.ensures n d (is ∙ c.if-second_one.true))

pub returns-else-second_one : goal.returns-else-second_one
returns-else-second_one g c =
    λ n d is.
    let look = disk_seen g.St.Device.Disk.counts g.St.Device.Disk.told g.St.Device.Disk.due in
    acts-at g.St.Store.seen look g.St.Device.Disk.tells g.St.Store.layout n (blanks d) c.blank_first.result.1 c.args.place
    (place.Rest c.in-Rest.first c.in-Rest.second)
    (standing g.St.Store.seen look c.blank_first.result.0) c.in-Rest.is (c.blank_first.ensures n d (is ∙ c.if-second_one.false))

pub returns-in_default : goal.returns-in_default
returns-in_default g c =
    λ n d is.
    let look = disk_seen g.St.Device.Disk.counts g.St.Device.Disk.told g.St.Device.Disk.due in
    wrong-closed g.St.Device.Disk.tells g.St.Store.layout n (blanks d) c.plain.result (standing g.St.Store.seen look c.args.place) refl
    (ap answer_of c.plain.ensures.answer) c.plain.ensures.first c.plain.ensures.second
    (never-rest g.St.Store.seen look c.args.place c.in_default.not-Rest)
