use Rattle.passive_store.specs.Seen.{disk_seen}
use Rattle.std.proofs.Common.{map}
use Rattle.twin_world.specs.View.{meant, entry_of}
use Rattle.twin_world.specs.Worlds.{standings}
use Rattle.twin_world.proofs.Runs.{legal}
use Rattle.twin_world.proofs.run.told_run.Goals as goal

pub returns-clause-legal : goal.returns-clause-legal
returns-clause-legal g c =
    λ so l z can blank.
    let look = disk_seen g.St.Device.Disk.counts g.St.Device.Disk.told g.St.Device.Disk.due in
    legal g.St.Store.layout (map entry_of c.in_ok-log.log.entries.items) (map meant c.args.commands.items)
    (standings g.St.Store.seen look c.args.world.now.places.items) (standings g.St.Store.seen look c.run_all.new.world.places.items)
    c.requires.reach
    c.in_ok-log.ensures.all blank (c.in_ok-log.ensures.reaches so l z can)
