use Rattle.std.proofs.Common.{Option, sym, subst}
use Rattle.std.specs.Prelude.{IfSome, is_some}
use Rattle.passive_store.specs.Kept.{body_at}
use Rattle.checkpoint.specs.Asked.{pick_of}
use Rattle.checkpoint.specs.declared.worker.Settled.{Settled}
use Rattle.journal.specs.Settling.{settled}
use Rattle.ejects.specs.Parts.{Stands}
use Rattle.ejects.specs.StoreEnds.{SettlesAt}
use Rattle.ejects.specs.View.{parts_of}
use Rattle.eden_kernel.proofs.activations.settle_ejects.Goals as goal

pub returns-in-Some-clause-stands : goal.returns-in-Some-clause-stands
returns-in-Some-clause-stands g c = λ so ts s stands settles.
    subst (λ (o : Option Settled). Stands (parts_of ts c.settles.new.self) (settled (pick_of o) s)) (sym c.in-Some.is)
    (c.settles.ensures.stands ts c.in-Some.found.pick s stands
    (subst (λ b. SettlesAt c.in-Some.found.uid b c.in-Some.found.pick s) (sym (c.holds.ensures so))
    (subst (λ (o : Option Settled).
    IfSome o (λ x. SettlesAt x.uid (is_some (body_at (g.St.Store.seen c.args.store.now).kept x.uid)) x.pick s)) c.in-Some.is settles)))
