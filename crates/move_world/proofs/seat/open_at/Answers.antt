use Rattle.std.proofs.Common.{sym, subst}
use Rattle.passive_store.specs.Seen.{disk_seen}
use Rattle.move_world.specs.Seats.{standing, IsSound}
use Rattle.move_world.proofs.seat.open_at.Goals as goal

pub open_seat-new-requires-clause-sound : goal.open_seat-new-requires-clause-sound
open_seat-new-requires-clause-sound g c =
    let look = disk_seen g.St.Device.Disk.counts g.St.Device.Disk.told g.St.Device.Disk.due in
    subst (λ s. IsSound c.args.n (standing g.St.Store.seen look s)) (sym c.replace-old.ensures.value) c.requires.sound

pub returns-clause-sound : goal.returns-clause-sound
returns-clause-sound g c =
    let look = disk_seen g.St.Device.Disk.counts g.St.Device.Disk.told g.St.Device.Disk.due in
    subst (λ s. IsSound c.args.n (standing g.St.Store.seen look s)) (sym c.replace.ensures.after) c.open_seat-new.ensures.sound
