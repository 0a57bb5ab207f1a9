use Rattle.std.proofs.Common.{refl}
use Rattle.passive_store.specs.Seen.{disk_seen}
use Rattle.checkpoint.proofs.Activations.{any-err}
use Rattle.eden_world.specs.Seated.{heeds}
use Rattle.eden_world.proofs.CarriedOut.{hold-carried, hold-shown, ends-still}
use Rattle.eden_world.proofs.Untouched.{still-keeps, still-shows}
use Rattle.eden_world.proofs.Counting.{same-one}
use Rattle.eden_world.proofs.World.hold.Goals as goal

pub returns-in_err-event-clause-starved : goal.returns-in_err-event-clause-starved
returns-in_err-event-clause-starved g c = any-err c.from_residual.result _
    (ends-still g.St.Device.Disk.tells g.St.Store.layout g.St.Store.seen
    (disk_seen g.St.Device.Disk.counts g.St.Device.Disk.told g.St.Device.Disk.due) c.args.self.now
    (record c.args.self.now { names = c.hold.new.self }) (λ n. refl))

pub returns-clause-carried : goal.returns-clause-carried
returns-clause-carried g c = hold-carried g.St.Device.Disk.tells g.St.Store.layout g.St.Store.seen
    (disk_seen g.St.Device.Disk.counts g.St.Device.Disk.told g.St.Device.Disk.due) c.args.self.now c.hold.new.self c.args.name.now
    c.args.uid
    c.entry_of_none.result c.in_ok-event.event c.in_ok-event.ensures.allowed c.in_ok-event.ensures.stands c.entry_of_none.ensures.event
    c.entry_of_none.ensures.none

pub returns-clause-shows : goal.returns-clause-shows
returns-clause-shows g c = still-shows (heeds g.St.Device.Disk.tells g.St.Device.Disk.obeys) g.St.Store.seen
    (disk_seen g.St.Device.Disk.counts g.St.Device.Disk.told g.St.Device.Disk.due) c.args.self.now
    (record c.args.self.now { names = c.hold.new.self })
    c.entry_of_none.result c.in_ok-event.event refl c.entry_of_none.ensures.event
    (hold-shown g.St.Store.layout c.args.self.now.names c.args.name.now c.args.uid c.in_ok-event.event c.in_ok-event.ensures.allowed)
    c.entry_of_none.ensures.none

pub returns-in_err-event-clause-leaves : goal.returns-in_err-event-clause-leaves
returns-in_err-event-clause-leaves g c = any-err c.from_residual.result _ (still-keeps (heeds g.St.Device.Disk.tells g.St.Device.Disk.obeys) g.St.Store.seen
    (disk_seen g.St.Device.Disk.counts g.St.Device.Disk.told g.St.Device.Disk.due) c.args.self.now
    (record c.args.self.now { names = c.hold.new.self }) c.requires refl refl)

pub returns-clause-asks : goal.returns-clause-asks
returns-clause-asks g c = same-one c.args.self.now.calls c.args.self.now.calls refl
