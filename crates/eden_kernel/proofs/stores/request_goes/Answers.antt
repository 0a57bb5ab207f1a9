use Rattle.std.proofs.Common.{Option, sym, subst}
use Rattle.std.specs.Prelude.{IfSome, is_some}
use Rattle.passive_store.specs.Kept.{body_at}
use Rattle.journal.specs.Step.{AllowsAt}
use Rattle.journal.specs.Stores.{store_turn}
use Rattle.journal.specs.declared.event.Event.TheVariants as event
use Rattle.journal.specs.declared.event.RequestEnd.TheVariants as end
use Rattle.checkpoint.specs.Asked.{pick_of}
use Rattle.checkpoint.specs.declared.worker.Settled.{Settled}
use Rattle.ejects.specs.Parts.{IsAt}
use Rattle.ejects.specs.StoreEnds.{SettlesAt}
use Rattle.ejects.specs.View.{parts_of}
use Rattle.ejects.proofs.StoreEnds.{store-goes-on}
use Rattle.eden_kernel.proofs.stores.request_goes.Goals as goal

pub returns-in-None : goal.returns-in-None
returns-in-None g c = λ so ts m reach clock s sound at first settles allowed.
    subst (λ (o : Option Settled). IsAt (parts_of ts c.args.ejects.now) m (store_turn end.Part (pick_of o) s)) (sym c.in-None.is)
    (store-goes-on (parts_of ts c.args.ejects.now) m s c.args.uid sound at first clock reach
    (subst (λ (o : Option Settled). AllowsAt s (event.Store c.args.uid clock end.Part (pick_of o))) c.in-None.is allowed))

pub returns-in-Some : goal.returns-in-Some
returns-in-Some g c = λ so ts m reach clock s sound at first settles allowed.
    subst (λ (o : Option Settled). IsAt (parts_of ts c.settles.new.self) m (store_turn end.Part (pick_of o) s)) (sym c.in-Some.is)
    (c.settles.ensures.turn ts m reach clock c.args.uid c.in-Some.found.pick s at
    (subst (λ b. SettlesAt c.in-Some.found.uid b c.in-Some.found.pick s) (sym (c.holds.ensures so))
    (subst (λ (o : Option Settled).
    IfSome o (λ x. SettlesAt x.uid (is_some (body_at (g.St.Store.seen c.args.store.now).kept x.uid)) x.pick s)) c.in-Some.is settles))
    (subst (λ (o : Option Settled). AllowsAt s (event.Store c.args.uid clock end.Part (pick_of o))) c.in-Some.is allowed))
