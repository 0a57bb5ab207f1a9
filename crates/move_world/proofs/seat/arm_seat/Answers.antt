use Rattle.std.proofs.Common.{◌≡◌, rules}
use Rattle.std.proofs.Common.{sym, subst}
use Rattle.eden_disk.specs.Calls.{Fine}
use Rattle.passive_store.specs.Seen.{disk_seen}
use Rattle.move_world.specs.Asking.{manned}
use Rattle.move_world.specs.Seats.{standing, opened_as}
use Rattle.move_world.specs.Counted.{Counted}
use Rattle.move_world.proofs.Counts.{counted-armed, counted-same}
use Rattle.move_world.proofs.seat.arm_seat.Goals as goal

pub returns-in-Opened-clause-counted : goal.returns-in-Opened-clause-counted
returns-in-Opened-clause-counted g c =
    let look = disk_seen g.St.Device.Disk.counts g.St.Device.Disk.told g.St.Device.Disk.due in
    let old = manned g.St.Store.seen c.in-Opened.node in
    let new = manned g.St.Store.seen c.arm.new.self in
    subst (λ s. Counted Fine (standing g.St.Store.seen look s) (opened_as c.in-Opened.up new)) (sym c.in-Opened.is)
    (counted-armed old new c.in-Opened.up c.in-Opened.up c.arm.ensures.arms.counts)

pub returns-in_default-clause-counted : goal.returns-in_default-clause-counted
returns-in_default-clause-counted g c =
    let look = disk_seen g.St.Device.Disk.counts g.St.Device.Disk.told g.St.Device.Disk.due in
    let same : c.args.seat.now ≡ c.in_default.seat = search rules in
    subst (λ s. Counted Fine (standing g.St.Store.seen look c.args.seat.now) (standing g.St.Store.seen look s)) same
    (counted-same (standing g.St.Store.seen look c.args.seat.now))
