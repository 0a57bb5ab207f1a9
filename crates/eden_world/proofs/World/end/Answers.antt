use Rattle.std.proofs.Common.{refl}
use Rattle.passive_store.specs.Seen.{disk_seen}
use Rattle.checkpoint.proofs.Activations.{any-err}
use Rattle.eden_world.specs.Seated.{heeds}
use Rattle.eden_world.proofs.CarriedOut.{end-carried, ends-still}
use Rattle.eden_world.proofs.Untouched.{still-shows}
use Rattle.eden_world.proofs.World.end.Goals as goal

pub returns-in_err-names-clause-starved : goal.returns-in_err-names-clause-starved
returns-in_err-names-clause-starved g c = any-err c.from_residual.result _
    (ends-still g.St.Device.Disk.tells g.St.Store.layout g.St.Store.seen
    (disk_seen g.St.Device.Disk.counts g.St.Device.Disk.told g.St.Device.Disk.due) c.args.self.now c.args.self.now (λ n. refl))

pub returns-clause-carried : goal.returns-clause-carried
returns-clause-carried g c = end-carried g.St.Device.Disk.tells g.St.Store.layout g.St.Store.seen
    (disk_seen g.St.Device.Disk.counts g.St.Device.Disk.told g.St.Device.Disk.due) c.args.self.now c.in_ok-names.names
    c.entry_of_none.result
    (λ w carries. c.in_ok-names.ensures w.traffic carries) c.entry_of_none.ensures.event c.entry_of_none.ensures.none

pub returns-clause-shows : goal.returns-clause-shows
returns-clause-shows g c = still-shows (heeds g.St.Device.Disk.tells g.St.Device.Disk.obeys) g.St.Store.seen
    (disk_seen g.St.Device.Disk.counts g.St.Device.Disk.told g.St.Device.Disk.due) c.args.self.now c.args.self.now
    c.entry_of_none.result _ refl c.entry_of_none.ensures.event refl c.entry_of_none.ensures.none
