use Rattle.std.proofs.Common.{sym, subst, Some}
use Rattle.plain_ejects.specs.View.{eject_of}
use Rattle.plain_stores.specs.View.{IsPlaceOf}
use Rattle.plain_stores.specs.declared.entries.PlainEntry.{PlainEntry}
use Rattle.plain_stores.proofs.Keyed.{find-none, find-some, item-there}
use Rattle.plain_stores.proofs.entries.find.Goals as goal

pub returns-in-Some : goal.returns-in-Some
returns-in-Some c ts =
    let es = c.args.entries.now in
    let placed : IsPlaceOf c.args.uid es (Some c.in-Some.place) = subst (IsPlaceOf c.args.uid es) c.in-Some.is c.place_of.ensures in
    sym (find-some (λ (e : PlainEntry). e.uid) (λ e. eject_of ts e.eject) c.args.uid es c.in-Some.place _ placed
    (item-there (λ (e : PlainEntry). e.uid) c.args.uid es c.in-Some.place _ placed.0))

pub returns-in-None : goal.returns-in-None
returns-in-None c ts = sym (find-none (λ (e : PlainEntry). e.uid) (λ e. eject_of ts e.eject) c.args.uid c.args.entries.now
    (subst (IsPlaceOf c.args.uid c.args.entries.now) c.in-None.is c.place_of.ensures))
