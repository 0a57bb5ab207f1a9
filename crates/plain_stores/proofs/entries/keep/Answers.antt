use Rattle.std.proofs.Common.{◌≡◌, refl, sym, subst, Some, None, ◌∙◌, ap, slice_get}
use Rattle.journal.specs.EjectChange.{kept_of}
use Rattle.plain_ejects.specs.View.{change_of, eject_of, with_kept}
use Rattle.plain_stores.specs.View.{IsPlaceOf}
use Rattle.plain_stores.specs.declared.entries.PlainEntry.{PlainEntry}
use Rattle.plain_stores.proofs.Keyed.{changed-nowhere, changed-there, item-there}
use Rattle.plain_stores.proofs.entries.keep.Goals as goal

pub returns-in-Some : goal.returns-in-Some
returns-in-Some c ts order =
    let u = c.args.uid in
    let es = c.args.entries.now.items in
    let i = c.in-Some.place in
    let placed : IsPlaceOf u es (Some i) =
    subst (λ l. IsPlaceOf u l (Some i)) c.deref.ensures.value (subst (IsPlaceOf u c.deref.result.now) c.in-Some.is c.place_of.ensures) in
    let is : slice_get es i ≡ Some c.index_mut.result.now =
    item-there (λ (e : PlainEntry). e.uid) u es i c.index_mut.result.now placed.0 ∙ ap Some (sym c.index_mut.ensures.value) in
    changed-there (λ (e : PlainEntry). e.uid) (λ e. eject_of ts e.eject)
    u es i c.index_mut.result.now _ (with_kept (kept_of (change_of c.args.wish))) order placed is
    refl (c.keep.ensures ts)

pub returns-in-None : goal.returns-in-None
returns-in-None c ts order =
    let u = c.args.uid in
    changed-nowhere (λ (e : PlainEntry). e.uid) (λ e. eject_of ts e.eject)
    u c.args.entries.now.items (with_kept (kept_of (change_of c.args.wish)))
    (subst (λ l. IsPlaceOf u l None) c.deref.ensures.value (subst (IsPlaceOf u c.deref.result.now) c.in-None.is c.place_of.ensures))
