use Rattle.passive_store.specs.Seen.{disk_seen}
use Rattle.eden_world.proofs.Stepping.{carries-out}
use Rattle.eden_world.proofs.machine.WorldMachine.carry_out.Goals as goal

pub returns-clause-carried : goal.returns-clause-carried
returns-clause-carried g c = carries-out g.St.Device.Disk.tells g.St.Store.layout g.St.Store.seen
    (disk_seen g.St.Device.Disk.counts g.St.Device.Disk.told g.St.Device.Disk.due) c.args.self.now c.carry.new.self
    c.args.command.now c.carry.result c.carry.ensures.carried
