use Rattle.std.proofs.Common.{map}
use Rattle.passive_store.specs.Seen.{disk_seen}
use Rattle.twin_world.specs.View.{meant, entry_of}
use Rattle.twin_world.specs.Worlds.{standings}
use Rattle.twin_world.proofs.Runs.{Ran}
use Rattle.twin_world.proofs.run.run_all.Given as goal

abbrev pub invariant-loop-command : goal.invariant-loop-command
invariant-loop-command g l =
    let look = disk_seen g.St.Device.Disk.counts g.St.Device.Disk.told g.St.Device.Disk.due in
    Ran g.St.Device.Disk.tells g.St.Store.layout (standings g.St.Store.seen look l.initial.world.places.items)
    (standings g.St.Store.seen look l.world.places.items) (map entry_of l.entries.items)
    (map meant l.initial.command-iterator.rest.items) (map meant l.command-iterator.rest.items)
