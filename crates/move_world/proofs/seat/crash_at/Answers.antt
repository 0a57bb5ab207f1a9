use Rattle.std.proofs.Common.{sym, subst}
use Rattle.passive_store.specs.Seen.{disk_seen}
use Rattle.move_world.specs.Seats.{standing, IsSound}
use Rattle.move_world.proofs.seat.crash_at.Goals as goal

pub returns-clause-sound : goal.returns-clause-sound
returns-clause-sound g c = λ n h.
    let look = disk_seen g.St.Device.Disk.counts g.St.Device.Disk.told g.St.Device.Disk.due in
    subst (λ s. IsSound n (standing g.St.Store.seen look s)) (sym c.replace.ensures.after)
    (c.crash_seat-new.ensures.sound n
    (subst (λ s. IsSound n (standing g.St.Store.seen look s)) (sym c.replace-old.ensures.value) h))
