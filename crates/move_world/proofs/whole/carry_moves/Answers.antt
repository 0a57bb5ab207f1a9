use Rattle.std.proofs.Common.{subst, sym, map}
use Rattle.passive_store.specs.Seen.{disk_seen}
use Rattle.move_world.specs.Disks.{KeepNothing}
use Rattle.move_world.specs.View.{log_of}
use Rattle.move_world.specs.Worlds.{standings}
use Rattle.move_world.specs.Counted.{AreTheDisks}
use Rattle.move_world.proofs.Counts.{counts-told-ok}
use Rattle.move_world.proofs.whole.carry_moves.Goals as goal

pub returns-clause-legal : goal.returns-clause-legal
returns-clause-legal g c = λ so none.
    let look = disk_seen g.St.Device.Disk.counts g.St.Device.Disk.told g.St.Device.Disk.due in
    c.told_run-done.ensures.legal so
    (c.in-Ok.ensures.blank
    (subst (λ disks. KeepNothing g.St.Store.layout (map look disks.items)) (sym c.replace.ensures.value) none))

pub returns-clause-counts : goal.returns-clause-counts
returns-clause-counts g c =
    let look = disk_seen g.St.Device.Disk.counts g.St.Device.Disk.told g.St.Device.Disk.due in
    let shown = standings g.St.Store.seen look c.in-Ok.world.seats.items in
    counts-told-ok c.told_run-done.result (λ d. log_of d.log) (map look c.args.disks.now.items) (map look c.close.result.items) shown _
    (subst (λ disks. AreTheDisks (map look disks.items) shown) c.replace.ensures.value c.in-Ok.ensures.counts)
    c.close.ensures.counts c.told_run-done.ensures.counted
