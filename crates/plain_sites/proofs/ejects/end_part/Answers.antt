use Rattle.std.proofs.Common.{◌∙◌, None, ap, refl, sym}
use Rattle.journal.specs.Ejects.{with_active}
use Rattle.plain_sites.specs.View.{ran_in}
use Rattle.plain_sites.proofs.Entries.{changed-at, changed-none, found-at, found-none}
use Rattle.plain_sites.proofs.ejects.end_part.Goals as goal

pub returns-in-Some-clause-ran : goal.returns-in-Some-clause-ran
returns-in-Some-clause-ran c ts = c.deactivate.ensures.running ts
    ∙ ap ran_in (sym (found-at ts c.args.uid c.args.entries.now.items c.deref.result.now c.place_of.result c.in-Some.place
    c.index_mut.result.now c.deref.ensures.value c.place_of.ensures c.in-Some.is c.index_mut.ensures.value))

pub returns-in-Some-clause-after : goal.returns-in-Some-clause-after
returns-in-Some-clause-after c ts order = changed-at ts c.args.uid c.args.entries.now.items c.deref.result.now c.place_of.result
    c.in-Some.place c.index_mut.result.now _ (with_active None) c.deref.ensures.value c.place_of.ensures c.in-Some.is
    c.index_mut.ensures.value refl (c.deactivate.ensures.after ts) order

pub returns-in-None-clause-ran : goal.returns-in-None-clause-ran
returns-in-None-clause-ran c ts = ap ran_in (sym (found-none ts c.args.uid c.args.entries.now.items c.deref.result.now c.place_of.result
    c.deref.ensures.value c.place_of.ensures c.in-None.is))

pub returns-in-None-clause-after : goal.returns-in-None-clause-after
returns-in-None-clause-after c ts order = changed-none ts c.args.uid c.args.entries.now.items c.deref.result.now c.place_of.result
    (with_active None) c.deref.ensures.value c.place_of.ensures c.in-None.is
