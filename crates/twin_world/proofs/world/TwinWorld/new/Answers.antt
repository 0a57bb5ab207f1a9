use Rattle.passive_store.specs.Seen.{disk_seen}
use Rattle.twin_world.proofs.Beginning.{four-pushed, eight-of, new-world, new-rise, new-blank, new-disks}
use Rattle.twin_world.proofs.world.TwinWorld.new.Goals as goal

pub returns-clause-world : goal.returns-clause-world
returns-clause-world g c =
    let look = disk_seen g.St.Device.Disk.counts g.St.Device.Disk.told g.St.Device.Disk.due in
    new-world g.St.Store.seen look c.args.disks.items _
    (eight-of c.args.disks.items _ _ _ _ c.last_pair-fourth.result c.last_pair-third.result
    c.last_pair-second.result c.last_pair-first.result _ c.requires.eight c.last_pair-fourth.ensures c.last_pair-third.ensures
    c.last_pair-second.ensures c.last_pair-first.ensures
    (four-pushed _ _ _ _ _ _ _ _ _ _ c.new-places.ensures.items c.reserve.ensures.items c.push_reserved.ensures.items
    c.push_reserved-2.ensures.items c.push_reserved-3.ensures.items c.push_reserved-4.ensures.items))

pub returns-clause-rise : goal.returns-clause-rise
returns-clause-rise g c =
    let look = disk_seen g.St.Device.Disk.counts g.St.Device.Disk.told g.St.Device.Disk.due in
    new-rise g.St.Store.seen look c.args.disks.items _
    (eight-of c.args.disks.items _ _ _ _ c.last_pair-fourth.result c.last_pair-third.result
    c.last_pair-second.result c.last_pair-first.result _ c.requires.eight c.last_pair-fourth.ensures c.last_pair-third.ensures
    c.last_pair-second.ensures c.last_pair-first.ensures
    (four-pushed _ _ _ _ _ _ _ _ _ _ c.new-places.ensures.items c.reserve.ensures.items c.push_reserved.ensures.items
    c.push_reserved-2.ensures.items c.push_reserved-3.ensures.items c.push_reserved-4.ensures.items))

pub returns-clause-blank : goal.returns-clause-blank
returns-clause-blank g c =
    let look = disk_seen g.St.Device.Disk.counts g.St.Device.Disk.told g.St.Device.Disk.due in
    new-blank g.St.Store.seen look c.args.disks.items _
    (eight-of c.args.disks.items _ _ _ _ c.last_pair-fourth.result c.last_pair-third.result
    c.last_pair-second.result c.last_pair-first.result _ c.requires.eight c.last_pair-fourth.ensures c.last_pair-third.ensures
    c.last_pair-second.ensures c.last_pair-first.ensures
    (four-pushed _ _ _ _ _ _ _ _ _ _ c.new-places.ensures.items c.reserve.ensures.items c.push_reserved.ensures.items
    c.push_reserved-2.ensures.items c.push_reserved-3.ensures.items c.push_reserved-4.ensures.items)) g.St.Store.layout

pub returns-clause-stand : goal.returns-clause-stand
returns-clause-stand g c =
    let look = disk_seen g.St.Device.Disk.counts g.St.Device.Disk.told g.St.Device.Disk.due in
    new-disks g.St.Store.seen look c.args.disks.items _
    (eight-of c.args.disks.items _ _ _ _ c.last_pair-fourth.result c.last_pair-third.result
    c.last_pair-second.result c.last_pair-first.result _ c.requires.eight c.last_pair-fourth.ensures c.last_pair-third.ensures
    c.last_pair-second.ensures c.last_pair-first.ensures
    (four-pushed _ _ _ _ _ _ _ _ _ _ c.new-places.ensures.items c.reserve.ensures.items c.push_reserved.ensures.items
    c.push_reserved-2.ensures.items c.push_reserved-3.ensures.items c.push_reserved-4.ensures.items))
