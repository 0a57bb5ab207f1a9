use Rattle.std.proofs.Common.{◌≡◌, subst, rules}
use Rattle.eden_disk.specs.Calls.{Fine}
use Rattle.move_world.specs.Counted.{Counted}
use Rattle.passive_store.specs.Seen.{disk_seen}
use Rattle.move_world.specs.Seats.{standing}
use Rattle.move_world.proofs.Counts.{counted-same}
use Rattle.move_world.proofs.seat.open_seat.Goals as goal

pub returns-in_default-clause-counted : goal.returns-in_default-clause-counted
returns-in_default-clause-counted g c =
    let look = disk_seen g.St.Device.Disk.counts g.St.Device.Disk.told g.St.Device.Disk.due in
    let same : c.args.seat ≡ c.in_default-1.seat = search rules in
    subst (λ s. Counted Fine (standing g.St.Store.seen look c.args.seat) (standing g.St.Store.seen look s)) same
    (counted-same (standing g.St.Store.seen look c.args.seat))
