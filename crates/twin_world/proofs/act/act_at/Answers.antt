use Rattle.passive_store.specs.Seen.{disk_seen}
use Rattle.twin_world.specs.View.{meant}
use Rattle.twin_world.proofs.Acting.{acts-from-to, sound-at}
use Rattle.twin_world.proofs.act.act_at.Goals as goal

pub act-new-requires-clause-sound : goal.act-new-requires-clause-sound
act-new-requires-clause-sound g c =
    let look = disk_seen g.St.Device.Disk.counts g.St.Device.Disk.told g.St.Device.Disk.due in
    sound-at g.St.Store.seen look c.args.n c.args.place.now c.replace-old.result c.replace-old.ensures.value c.requires.sound

pub returns : goal.returns
returns g c =
    let look = disk_seen g.St.Device.Disk.counts g.St.Device.Disk.told g.St.Device.Disk.due in
    acts-from-to g.St.Store.seen look g.St.Device.Disk.tells g.St.Store.layout c.args.n (meant c.args.command.now) c.act-new.result.1
    c.args.place.now c.replace-old.result
    c.act-new.result.0 c.replace.new.dest c.replace-old.ensures.value c.replace.ensures.after c.act-new.ensures
