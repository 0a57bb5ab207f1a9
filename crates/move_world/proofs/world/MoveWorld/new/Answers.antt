use Rattle.passive_store.specs.Seen.{disk_seen}
use Rattle.move_world.specs.Kept.{rows}
use Rattle.move_world.proofs.Beginning.{new_world, new_blank}
use Rattle.move_world.proofs.Beginning.{new_disks}
use Rattle.move_world.proofs.world.MoveWorld.new.Goals as goal

pub returns-clause-world : goal.returns-clause-world
returns-clause-world g c =
    let look = disk_seen g.St.Device.Disk.counts g.St.Device.Disk.told g.St.Device.Disk.due in
    new_world g.St.Store.seen look c.args.disks.items c.in_ok-seats.seats.items (rows c.in-Ok.letters) c.requires.eight
    c.in_ok-seats.ensures.ok c.in-Ok.ensures.none

pub returns-clause-blank : goal.returns-clause-blank
returns-clause-blank g c = λ none.
    let look = disk_seen g.St.Device.Disk.counts g.St.Device.Disk.told g.St.Device.Disk.due in
    new_blank g.St.Store.seen look c.args.disks.items c.in_ok-seats.seats.items (rows c.in-Ok.letters) c.requires.eight
    c.in_ok-seats.ensures.ok c.in-Ok.ensures.none g.St.Store.layout none

pub returns-clause-counts : goal.returns-clause-counts
returns-clause-counts g c =
    let look = disk_seen g.St.Device.Disk.counts g.St.Device.Disk.told g.St.Device.Disk.due in
    new_disks g.St.Store.seen look c.args.disks.items c.in_ok-seats.seats.items (rows c.in-Ok.letters) c.requires.eight
    c.in_ok-seats.ensures.ok c.in-Ok.ensures.none
