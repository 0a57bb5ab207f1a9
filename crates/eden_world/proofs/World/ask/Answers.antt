use Rattle.std.proofs.Common.{refl, ◌∙◌}
use Rattle.passive_store.specs.Seen.{disk_seen}
use Rattle.checkpoint.proofs.Activations.{any-err}
use Rattle.eden_world.specs.Seated.{heeds}
use Rattle.eden_world.proofs.CarriedOut.{ask-calls, ask-walks, ends-still}
use Rattle.eden_world.proofs.Untouched.{still-keeps, still-shows}
use Rattle.ejects.proofs.Counting.{asked-one}
use Rattle.eden_world.proofs.World.ask.Goals as goal

pub returns-in_err-share-clause-starved : goal.returns-in_err-share-clause-starved
returns-in_err-share-clause-starved g c = any-err c.from_residual.result _
    (ends-still g.St.Device.Disk.tells g.St.Store.layout g.St.Store.seen
    (disk_seen g.St.Device.Disk.counts g.St.Device.Disk.told g.St.Device.Disk.due) c.args.self.now c.args.self.now (λ n. refl))

pub returns-in_err-call-clause-starved : goal.returns-in_err-call-clause-starved
returns-in_err-call-clause-starved g c = any-err c.from_residual-in_err-call.result _
    (ends-still g.St.Device.Disk.tells g.St.Store.layout g.St.Store.seen
    (disk_seen g.St.Device.Disk.counts g.St.Device.Disk.told g.St.Device.Disk.due) c.args.self.now
    (record c.args.self.now { calls = c.ask.new.self }) (λ n. refl))

pub returns-in_err-event-clause-starved : goal.returns-in_err-event-clause-starved
returns-in_err-event-clause-starved g c = any-err c.from_residual-in_err-event.result _
    (ends-still g.St.Device.Disk.tells g.St.Store.layout g.St.Store.seen
    (disk_seen g.St.Device.Disk.counts g.St.Device.Disk.told g.St.Device.Disk.due) c.args.self.now
    (record c.args.self.now { calls = c.ask.new.self; names = c.ask-2.new.self }) (λ n. refl))

pub returns-clause-called : goal.returns-clause-called
returns-clause-called g c = ask-calls g.St.Device.Disk.tells g.St.Store.layout g.St.Store.seen
    (disk_seen g.St.Device.Disk.counts g.St.Device.Disk.told g.St.Device.Disk.due) c.args.self.now c.ask.new.self
    c.ask-2.new.self c.args.name.now c.in_ok-share.field-0 c.args.target c.args.operation c.args.args
    c.in_ok-call.field-0
    c.entry_of_none.result (record {
      copy = c.in_ok-share.ensures;
      asks = c.in_ok-call.ensures.cases;
      carries = c.in_ok-call.ensures.model;
      stands = c.in_ok-event.ensures.asked;
      is = c.entry_of_none.ensures.event ∙ c.in_ok-event.ensures.event;
      none = c.entry_of_none.ensures.none;
    })

pub returns-clause-walked : goal.returns-clause-walked
returns-clause-walked g c = ask-walks g.St.Device.Disk.tells g.St.Store.layout g.St.Store.seen
    (disk_seen g.St.Device.Disk.counts g.St.Device.Disk.told g.St.Device.Disk.due) c.args.self.now c.ask.new.self
    c.ask-2.new.self c.args.name.now c.in_ok-share.field-0 c.args.target c.args.operation c.args.args
    c.in_ok-call.field-0
    c.entry_of_none.result (record {
      copy = c.in_ok-share.ensures;
      asks = c.in_ok-call.ensures.cases;
      carries = c.in_ok-call.ensures.model;
      stands = c.in_ok-event.ensures.asked;
      is = c.entry_of_none.ensures.event ∙ c.in_ok-event.ensures.event;
      none = c.entry_of_none.ensures.none;
    })

pub returns-in_err-share-clause-leaves : goal.returns-in_err-share-clause-leaves
returns-in_err-share-clause-leaves g c = any-err c.from_residual.result _ (still-keeps (heeds g.St.Device.Disk.tells g.St.Device.Disk.obeys) g.St.Store.seen
    (disk_seen g.St.Device.Disk.counts g.St.Device.Disk.told g.St.Device.Disk.due) c.args.self.now c.args.self.now c.requires.whole refl refl)

pub returns-in_err-call-clause-leaves : goal.returns-in_err-call-clause-leaves
returns-in_err-call-clause-leaves g c = any-err c.from_residual-in_err-call.result _ (still-keeps (heeds g.St.Device.Disk.tells g.St.Device.Disk.obeys) g.St.Store.seen
    (disk_seen g.St.Device.Disk.counts g.St.Device.Disk.told g.St.Device.Disk.due) c.args.self.now
    (record c.args.self.now { calls = c.ask.new.self }) c.requires.whole refl refl)

pub returns-in_err-event-clause-leaves : goal.returns-in_err-event-clause-leaves
returns-in_err-event-clause-leaves g c = any-err c.from_residual-in_err-event.result _ (still-keeps (heeds g.St.Device.Disk.tells g.St.Device.Disk.obeys) g.St.Store.seen
    (disk_seen g.St.Device.Disk.counts g.St.Device.Disk.told g.St.Device.Disk.due) c.args.self.now
    (record c.args.self.now { calls = c.ask.new.self; names = c.ask-2.new.self }) c.requires.whole refl refl)

pub returns-clause-shows : goal.returns-clause-shows
returns-clause-shows g c = still-shows (heeds g.St.Device.Disk.tells g.St.Device.Disk.obeys) g.St.Store.seen
    (disk_seen g.St.Device.Disk.counts g.St.Device.Disk.told g.St.Device.Disk.due) c.args.self.now
    (record c.args.self.now { calls = c.ask.new.self; names = c.ask-2.new.self })
    c.entry_of_none.result _ refl (c.entry_of_none.ensures.event ∙ c.in_ok-event.ensures.event) refl c.entry_of_none.ensures.none

pub returns-clause-asks : goal.returns-clause-asks
returns-clause-asks g c = asked-one _ _ _ _ _ c.args.self.now.calls c.ask.new.self c.in_ok-call.field-0 c.in_ok-call.ensures.cases
