use Rattle.std.proofs.Common.{◌∙◌, ap, refl, subst}
use Rattle.plain_ejects.specs.View.{eject_of}
use Rattle.plain_stores.specs.Places.{IsBehindLesser}
use Rattle.plain_stores.specs.View.{ejects_of}
use Rattle.plain_stores.specs.declared.entries.PlainEntry.{PlainEntry}
use Rattle.plain_stores.proofs.Behind.{added}
use Rattle.plain_stores.proofs.entries.add.Goals as goal

pub returns : goal.returns
returns c ts new =
    let i = c.place_behind-place.result in
    ap (ejects_of ts) c.in_ok-insert.ensures.items
    ∙ added (λ (e : PlainEntry). e.uid) (λ e. eject_of ts e.eject) c.args.uid c.args.entries.now.items i _ refl new
    (subst (λ l. IsBehindLesser (λ (e : PlainEntry). e.uid) c.args.uid l i) c.deref.ensures.value c.place_behind-place.ensures.behind)
