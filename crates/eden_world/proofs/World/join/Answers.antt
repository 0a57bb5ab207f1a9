use Rattle.std.proofs.Common.{refl}
use Rattle.passive_store.specs.Seen.{disk_seen}
use Rattle.eden_world.specs.Seated.{heeds}
use Rattle.eden_world.proofs.CarriedOut.{join-carried}
use Rattle.eden_world.proofs.Untouched.{still-shows}
use Rattle.eden_world.proofs.Counting.{same-one}
use Rattle.eden_world.proofs.World.join.Goals as goal

pub returns-clause-carried : goal.returns-clause-carried
returns-clause-carried g c = join-carried g.St.Device.Disk.tells g.St.Store.layout g.St.Store.seen
    (disk_seen g.St.Device.Disk.counts g.St.Device.Disk.told g.St.Device.Disk.due) c.args.self.now c.set_link.new.self c.args.a c.args.b
    c.entry_of_none.result
    c.set_link.ensures.joined c.set_link.ensures.up c.entry_of_none.ensures.event c.entry_of_none.ensures.none

pub returns-clause-shows : goal.returns-clause-shows
returns-clause-shows g c = still-shows (heeds g.St.Device.Disk.tells g.St.Device.Disk.obeys) g.St.Store.seen
    (disk_seen g.St.Device.Disk.counts g.St.Device.Disk.told g.St.Device.Disk.due) c.args.self.now
    (record c.args.self.now { places = c.set_link.new.self })
    c.entry_of_none.result _ refl c.entry_of_none.ensures.event refl c.entry_of_none.ensures.none

pub returns-clause-asks : goal.returns-clause-asks
returns-clause-asks g c = same-one c.args.self.now.calls c.args.self.now.calls refl
