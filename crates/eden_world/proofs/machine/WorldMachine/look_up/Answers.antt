use Rattle.passive_store.specs.Seen.{disk_seen}
use Rattle.eden_world.proofs.Stepping.{looks-starved, looks-up}
use Rattle.eden_world.proofs.machine.WorldMachine.look_up.Goals as goal

pub returns-clause-looked : goal.returns-clause-looked
returns-clause-looked g c = looks-up g.St.Device.Disk.tells g.St.Store.layout g.St.Store.seen
    (disk_seen g.St.Device.Disk.counts g.St.Device.Disk.told g.St.Device.Disk.due) c.args.self.now c.walk.new.self c.args.name.now
    c.args.directory c.args.component.now c.walk.result c.walk.ensures.looked

pub returns-clause-starved : goal.returns-clause-starved
returns-clause-starved g c = looks-starved g.St.Device.Disk.tells g.St.Store.layout g.St.Store.seen
    (disk_seen g.St.Device.Disk.counts g.St.Device.Disk.told g.St.Device.Disk.due) c.args.self.now c.walk.new.self
    c.args.directory c.args.component.now c.walk.result c.walk.ensures.starved
