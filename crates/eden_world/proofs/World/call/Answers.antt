use Rattle.std.proofs.Common.{refl, sym, ◌∙◌}
use Rattle.passive_store.specs.Seen.{disk_seen}
use Rattle.checkpoint.proofs.Activations.{any-err}
use Rattle.eden_world.specs.Seated.{heeds}
use Rattle.eden_world.proofs.CarriedOut.{call-carried, void-carried, ends-still}
use Rattle.eden_world.proofs.Untouched.{still-keeps, still-shows}
use Rattle.eden_world.proofs.Counting.{same-one}
use Rattle.eden_world.proofs.World.call.Goals as goal

pub returns-in_err-cap-clause-starved : goal.returns-in_err-cap-clause-starved
returns-in_err-cap-clause-starved g c = any-err c.from_residual.result _
    (ends-still g.St.Device.Disk.tells g.St.Store.layout g.St.Store.seen
    (disk_seen g.St.Device.Disk.counts g.St.Device.Disk.told g.St.Device.Disk.due) c.args.self.now c.args.self.now (λ n. refl))

pub returns-in_err-operation-in-Some-clause-starved : goal.returns-in_err-operation-in-Some-clause-starved
returns-in_err-operation-in-Some-clause-starved g c = any-err c.from_residual-in_err-operation-in-Some.result _
    (ends-still g.St.Device.Disk.tells g.St.Store.layout g.St.Store.seen
    (disk_seen g.St.Device.Disk.counts g.St.Device.Disk.told g.St.Device.Disk.due) c.args.self.now c.args.self.now (λ n. refl))

pub returns-in_err-name-in-None-clause-starved : goal.returns-in_err-name-in-None-clause-starved
returns-in_err-name-in-None-clause-starved g c = any-err c.from_residual-in_err-name-in-None.result _
    (ends-still g.St.Device.Disk.tells g.St.Store.layout g.St.Store.seen
    (disk_seen g.St.Device.Disk.counts g.St.Device.Disk.told g.St.Device.Disk.due) c.args.self.now c.args.self.now (λ n. refl))

pub returns-in_ok-operation-in-Some-clause-carried : goal.returns-in_ok-operation-in-Some-clause-carried
returns-in_ok-operation-in-Some-clause-carried g c = call-carried g.St.Device.Disk.tells g.St.Store.layout g.St.Store.seen
    (disk_seen g.St.Device.Disk.counts g.St.Device.Disk.told g.St.Device.Disk.due) c.args.self.now c.ask.new.self c.args.name.now
    c.args.target.now c.args.operation.now
    c.in_ok-operation-in-Some.operation c.args.args.now c.in-Some.cap c.in-Some.items c.ask.result c.ask.ensures.called
    c.in_ok-operation-in-Some.ensures (λ w stands. sym c.in-Some.is ∙ c.in_ok-cap.ensures c.args.name.now c.args.operation.now w stands)

pub returns-in_ok-name-in-None-clause-carried : goal.returns-in_ok-name-in-None-clause-carried
returns-in_ok-name-in-None-clause-carried g c = void-carried g.St.Device.Disk.tells g.St.Store.layout g.St.Store.seen
    (disk_seen g.St.Device.Disk.counts g.St.Device.Disk.told g.St.Device.Disk.due) c.args.self.now c.args.name.now
    c.in_ok-name-in-None.name c.args.target.now c.args.operation.now
    c.args.args.now c.entry_of_none.result (λ w stands. sym c.in-None.is
    ∙ c.in_ok-cap.ensures c.args.name.now c.args.operation.now w stands)
    c.in_ok-name-in-None.ensures c.entry_of_none.ensures.event c.entry_of_none.ensures.none

pub returns-in_err-cap-clause-leaves : goal.returns-in_err-cap-clause-leaves
returns-in_err-cap-clause-leaves g c = any-err c.from_residual.result _ (still-keeps (heeds g.St.Device.Disk.tells g.St.Device.Disk.obeys) g.St.Store.seen
    (disk_seen g.St.Device.Disk.counts g.St.Device.Disk.told g.St.Device.Disk.due) c.args.self.now c.args.self.now c.requires.whole refl refl)

pub returns-in_err-operation-in-Some-clause-leaves : goal.returns-in_err-operation-in-Some-clause-leaves
returns-in_err-operation-in-Some-clause-leaves g c = any-err c.from_residual-in_err-operation-in-Some.result _ (still-keeps (heeds g.St.Device.Disk.tells g.St.Device.Disk.obeys) g.St.Store.seen
    (disk_seen g.St.Device.Disk.counts g.St.Device.Disk.told g.St.Device.Disk.due) c.args.self.now c.args.self.now c.requires.whole refl refl)

pub returns-in_err-name-in-None-clause-leaves : goal.returns-in_err-name-in-None-clause-leaves
returns-in_err-name-in-None-clause-leaves g c = any-err c.from_residual-in_err-name-in-None.result _ (still-keeps (heeds g.St.Device.Disk.tells g.St.Device.Disk.obeys) g.St.Store.seen
    (disk_seen g.St.Device.Disk.counts g.St.Device.Disk.told g.St.Device.Disk.due) c.args.self.now c.args.self.now c.requires.whole refl refl)

pub returns-in_ok-name-in-None-clause-shows : goal.returns-in_ok-name-in-None-clause-shows
returns-in_ok-name-in-None-clause-shows g c = still-shows (heeds g.St.Device.Disk.tells g.St.Device.Disk.obeys) g.St.Store.seen
    (disk_seen g.St.Device.Disk.counts g.St.Device.Disk.told g.St.Device.Disk.due) c.args.self.now c.args.self.now
    c.entry_of_none.result _ refl c.entry_of_none.ensures.event refl c.entry_of_none.ensures.none

pub returns-in_ok-name-in-None-clause-asks : goal.returns-in_ok-name-in-None-clause-asks
returns-in_ok-name-in-None-clause-asks g c = same-one c.args.self.now.calls c.args.self.now.calls refl
