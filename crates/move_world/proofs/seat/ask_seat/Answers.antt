use Rattle.std.proofs.Common.{◌≡◌, rules}
use Rattle.eden_disk.specs.Calls.{Fine}
use Rattle.passive_store.specs.Seen.{disk_seen}
use Rattle.move_world.proofs.Seating.{asked-seat}
use Rattle.std.proofs.Common.{sym, subst}
use Rattle.std.specs.Prelude.{IfOk}
use Rattle.move_world.specs.View.{answer_of}
use Rattle.move_world.specs.Asking.{manned, uid_in, call_in}
use Rattle.move_world.specs.Seats.{standing, opened_as}
use Rattle.move_world.specs.Counting.{end_in}
use Rattle.move_world.specs.Counted.{Counted}
use Rattle.move_world.proofs.Counts.{counted-asked, counted-same}
use Rattle.move_world.proofs.seat.ask_seat.Goals as goal

pub returns-in-Opened-clause-asked : goal.returns-in-Opened-clause-asked
returns-in-Opened-clause-asked g c =
    asked-seat g.St.Store.seen (disk_seen g.St.Device.Disk.counts g.St.Device.Disk.told g.St.Device.Disk.due) g.St.Device.Disk.tells
    g.St.Store.layout
    c.args.n c.args.what.now c.args.seat.now c.in-Opened.node c.ask_up.new.node c.in-Opened.up c.ask_up.new.up c.ask_up.result
    c.in-Opened.is c.if-up.true c.requires.sound c.requires.may c.ask_up.ensures.heard c.ask_up.ensures.stopped c.ask_up.ensures.goes_on

pub returns-in-Opened-clause-counted : goal.returns-in-Opened-clause-counted
returns-in-Opened-clause-counted g c =
    let look = disk_seen g.St.Device.Disk.counts g.St.Device.Disk.told g.St.Device.Disk.due in
    let old = manned g.St.Store.seen c.in-Opened.node in
    let new = manned g.St.Store.seen c.ask_up.new.node in
    subst (λ s. IfOk c.ask_up.result (λ a. Counted (end_in (answer_of a)) (standing g.St.Store.seen look s) (opened_as c.ask_up.new.up new)))
    (sym c.in-Opened.is)
    (counted-asked g.St.Device.Disk.tells g.St.Store.layout (uid_in c.in-Opened.node.number c.args.what.now) (call_in c.args.what.now)
    c.ask_up.result old new c.in-Opened.up c.ask_up.new.up c.ask_up.ensures.heard)

pub returns-in_default-clause-counted : goal.returns-in_default-clause-counted
returns-in_default-clause-counted g c =
    let look = disk_seen g.St.Device.Disk.counts g.St.Device.Disk.told g.St.Device.Disk.due in
    let same : c.args.seat.now ≡ c.in_default.seat = search rules in
    subst (λ s. Counted Fine (standing g.St.Store.seen look c.args.seat.now) (standing g.St.Store.seen look s)) same
    (counted-same (standing g.St.Store.seen look c.args.seat.now))
