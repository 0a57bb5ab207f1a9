use Rattle.passive_store.specs.Seen.{disk_seen}
use Rattle.move_world.specs.Kept.{rows}
use Rattle.move_world.specs.Worlds.{standings}
use Rattle.move_world.proofs.Placing.{carried-ok}
use Rattle.move_world.proofs.Counts.{counted-none}
use Rattle.move_world.proofs.world.MoveWorld.carry.Goals as goal

pub returns-in-Some-clause-steps : goal.returns-in-Some-clause-steps
returns-in-Some-clause-steps g c = λ so w of.
    let look = disk_seen g.St.Device.Disk.counts g.St.Device.Disk.told g.St.Device.Disk.due in
    carried-ok g.St.Store.layout c.args.a c.args.b c.args.i c.in-Some.letter c.in_ok-at.field-0 c.deliver.result
    (standings g.St.Store.seen look c.args.self.now.seats.items) (standings g.St.Store.seen look c.deliver.new.self.seats.items)
    (rows c.args.self.now.letters) (rows c.deliver.new.self.letters) w c.requires.first c.requires.second c.in-Some.is c.in_ok-at.ensures of
    (λ fits. c.deliver.ensures.delivered so fits w of)

pub returns-then-not-is_up-clause-counted : goal.returns-then-not-is_up-clause-counted
returns-then-not-is_up-clause-counted g c =
    let look = disk_seen g.St.Device.Disk.counts g.St.Device.Disk.told g.St.Device.Disk.due in
    counted-none (standings g.St.Store.seen look c.args.self.now.seats.items) c.args.b

pub returns-in-None-clause-counted : goal.returns-in-None-clause-counted
returns-in-None-clause-counted g c =
    let look = disk_seen g.St.Device.Disk.counts g.St.Device.Disk.told g.St.Device.Disk.due in
    counted-none (standings g.St.Store.seen look c.args.self.now.seats.items) c.args.b
