use Rattle.passive_store.specs.Seen.{disk_seen}
use Rattle.eden_world.proofs.Stepping.{takes-key}
use Rattle.eden_world.proofs.machine.WorldMachine.take.Goals as goal

pub returns-clause-taken : goal.returns-clause-taken
returns-clause-taken g c = takes-key g.St.Device.Disk.tells g.St.Store.layout g.St.Store.seen
    (disk_seen g.St.Device.Disk.counts g.St.Device.Disk.told g.St.Device.Disk.due) c.args.self.now c.take_key.new.self c.args.key
    c.take_key.result c.take_key.ensures.taken
