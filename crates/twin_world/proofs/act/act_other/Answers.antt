use Rattle.passive_store.specs.Seen.{disk_seen}
use Rattle.std.proofs.Common.{ap, sym}
use Rattle.std.specs.Prelude.{Ok}
use Rattle.script_words.specs.Meaning.{written_mode}
use Rattle.twin_world.specs.Commands.{opens, closes, blanks, fails, stops}
use Rattle.twin_world.specs.View.{meant, answer_of}
use Rattle.twin_world.specs.Places.{standing}
use Rattle.twin_world.proofs.Acting.{acts-as, acts-fail, acts-stop, open-means, close-means, blank-means, fail-means, fail-reach}
use Rattle.twin_world.proofs.Acting.{stop-reach}
use Rattle.twin_world.proofs.act.act_other.Goals as goal

pub returns-in-Open : goal.returns-in-Open
returns-in-Open g c =
    let look = disk_seen g.St.Device.Disk.counts g.St.Device.Disk.told g.St.Device.Disk.due in
    acts-as g.St.Device.Disk.tells g.St.Store.layout c.args.n (opens c.args.n) (meant c.args.command.now) c.open_place.result.1
    (standing g.St.Store.seen look c.args.place) (standing g.St.Store.seen look c.open_place.result.0)
    (open-means c.args.command.now c.args.n c.in-Open.n c.in-Open.is c.requires.node)
    c.open_place.ensures

pub returns-in-Close : goal.returns-in-Close
returns-in-Close g c =
    let look = disk_seen g.St.Device.Disk.counts g.St.Device.Disk.told g.St.Device.Disk.due in
    acts-as g.St.Device.Disk.tells g.St.Store.layout c.args.n (closes c.args.n) (meant c.args.command.now) (Ok
    c.close_place-place.result.1) (standing g.St.Store.seen look c.args.place) (standing g.St.Store.seen look c.close_place-place.result.0)
    (close-means c.args.command.now c.args.n c.in-Close.n c.in-Close.is c.requires.node)
    (c.close_place-place.ensures c.args.n)

pub returns-in-Blank : goal.returns-in-Blank
returns-in-Blank g c =
    let look = disk_seen g.St.Device.Disk.counts g.St.Device.Disk.told g.St.Device.Disk.due in
    acts-as g.St.Device.Disk.tells g.St.Store.layout c.args.n (blanks c.in-Blank.disk) (meant c.args.command.now) c.blank_place.result.1
    (standing g.St.Store.seen look c.args.place) (standing g.St.Store.seen look c.blank_place.result.0)
    (blank-means c.args.command.now c.in-Blank.disk c.in-Blank.is)
    (c.blank_place.ensures c.args.n c.in-Blank.disk (sym c.is_second.ensures))

pub returns-in-Fail : goal.returns-in-Fail
returns-in-Fail g c =
    let look = disk_seen g.St.Device.Disk.counts g.St.Device.Disk.told g.St.Device.Disk.due in
    acts-as g.St.Device.Disk.tells g.St.Store.layout c.args.n (fails c.in-Fail.disk c.in-Fail.after) (meant c.args.command.now)
    (Ok c.plain.result) (standing g.St.Store.seen look c.args.place) (standing g.St.Store.seen look c.arm_place-place.result)
    (fail-means c.args.command.now c.in-Fail.disk c.in-Fail.after c.in-Fail.is)
    (acts-fail g.St.Device.Disk.tells g.St.Store.layout c.args.n c.in-Fail.disk c.in-Fail.after c.plain.result
    (standing g.St.Store.seen look c.args.place)
    (standing g.St.Store.seen look c.arm_place-place.result) c.arm_place-place.ensures (ap answer_of c.plain.ensures.answer)
    c.plain.ensures.first c.plain.ensures.second)

pub returns-in-Stop : goal.returns-in-Stop
returns-in-Stop g c =
    let look = disk_seen g.St.Device.Disk.counts g.St.Device.Disk.told g.St.Device.Disk.due in
    acts-as g.St.Device.Disk.tells g.St.Store.layout c.args.n (stops c.in-Stop.disk c.in-Stop.after (written_mode c.in-Stop.mode))
    (meant c.args.command.now) (Ok c.plain-in-Stop.result) (standing g.St.Store.seen look c.args.place)
    (standing g.St.Store.seen look c.arm_place-place-in-Stop.result)
    (ap meant c.in-Stop.is)
    (acts-stop g.St.Device.Disk.tells g.St.Store.layout c.args.n c.in-Stop.disk c.in-Stop.after (written_mode c.in-Stop.mode)
    c.plain-in-Stop.result
    (standing g.St.Store.seen look c.args.place) (standing g.St.Store.seen look c.arm_place-place-in-Stop.result)
    c.arm_place-place-in-Stop.ensures
    (ap answer_of c.plain-in-Stop.ensures.answer) c.plain-in-Stop.ensures.first c.plain-in-Stop.ensures.second)

pub arm_place-place-requires : goal.arm_place-place-requires
arm_place-place-requires g c =
    fail-reach c.args.command.now c.in-Fail.disk c.in-Fail.after c.in-Fail.is c.requires.reach

pub arm_place-place-requires-in-Stop : goal.arm_place-place-requires-in-Stop
arm_place-place-requires-in-Stop g c =
    stop-reach c.args.command.now c.in-Stop.disk c.in-Stop.after c.in-Stop.mode c.in-Stop.is c.requires.reach
