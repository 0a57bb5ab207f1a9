use Rattle.std.proofs.Common.{◌≡◌, rules}
use Rattle.passive_store.specs.Seen.{disk_seen}
use Rattle.move_world.proofs.Seating.{crashed-seat}
use Rattle.std.proofs.Common.{sym, subst, ap, ◌∙◌}
use Rattle.eden_disk.specs.Calls.{Fine}
use Rattle.passive_store.specs.Seen.{DiskSeen}
use Rattle.move_world.specs.Asking.{manned}
use Rattle.move_world.specs.Seats.{standing, Resting}
use Rattle.move_world.specs.Counting.{refusals_in}
use Rattle.move_world.specs.Counted.{Counted}
use Rattle.move_world.proofs.Counts.{counted-disk, counted-same}
use Rattle.move_world.proofs.seat.crash_seat.Goals as goal

pub returns-in-Opened-default-true-clause-crashed : goal.returns-in-Opened-default-true-clause-crashed
returns-in-Opened-default-true-clause-crashed g c = λ so n w stands.
    crashed-seat g.St.Store.seen (disk_seen g.St.Device.Disk.counts g.St.Device.Disk.told g.St.Device.Disk.due) g.St.Store.layout n _
    c.args.seat c.in-Opened-default-true.node c.in-Opened-default-true.up
    (disk_seen g.St.Device.Disk.counts g.St.Device.Disk.told g.St.Device.Disk.due c.crash.result) (disk_seen g.St.Device.Disk.counts
    g.St.Device.Disk.told g.St.Device.Disk.due c.cut.result) c.in-Opened-default-true.is c.in-Opened-default-true.up-test
    c.crash.ensures (c.cut.ensures.cut so) w stands

pub returns-in-Opened-default-true-clause-counted : goal.returns-in-Opened-default-true-clause-counted
returns-in-Opened-default-true-clause-counted g c =
    let look = disk_seen g.St.Device.Disk.counts g.St.Device.Disk.told g.St.Device.Disk.due in
    subst (λ s. Counted Fine (standing g.St.Store.seen look s) (Resting (look c.cut.result))) (sym c.in-Opened-default-true.is)
    (counted-disk c.in-Opened-default-true.up (manned g.St.Store.seen c.in-Opened-default-true.node) (look c.cut.result)
    (c.cut.ensures.counts ∙ ap (λ (d : DiskSeen). refusals_in d.counts) c.crash.ensures))

pub returns-in_default-clause-counted : goal.returns-in_default-clause-counted
returns-in_default-clause-counted g c =
    let look = disk_seen g.St.Device.Disk.counts g.St.Device.Disk.told g.St.Device.Disk.due in
    let same : c.args.seat ≡ c.in_default-1.seat = search rules in
    subst (λ s. Counted Fine (standing g.St.Store.seen look c.args.seat) (standing g.St.Store.seen look s)) same
    (counted-same (standing g.St.Store.seen look c.args.seat))
