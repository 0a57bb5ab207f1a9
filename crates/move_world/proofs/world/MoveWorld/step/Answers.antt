use Rattle.passive_store.specs.Seen.{disk_seen}
use Rattle.move_world.specs.Kept.{rows}
use Rattle.move_world.specs.View.{meant}
use Rattle.move_world.specs.Worlds.{standings}
use Rattle.move_world.proofs.Placing.{stepped-ok, may-fit}
use Rattle.move_world.proofs.world.MoveWorld.step.Goals as goal

pub returns-in-Some-clause-steps : goal.returns-in-Some-clause-steps
returns-in-Some-clause-steps g c = λ so w of.
    let look = disk_seen g.St.Device.Disk.counts g.St.Device.Disk.told g.St.Device.Disk.due in
    stepped-ok g.St.Store.layout (meant c.args.command.now) c.in-Some.n c.in-Some.what c.in_ok-n.field-0 c.ask.result
    (standings g.St.Store.seen look c.ask.new.self.seats.items) (rows c.ask.new.self.letters) w c.in-Some.is c.in_ok-n.ensures.is
    (c.ask.ensures.asked so (may-fit c.in-Some.n c.in-Some.what c.in_ok-n.field-0 c.in-Some.is c.in_ok-n.ensures.may) w of)
