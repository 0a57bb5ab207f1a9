use Rattle.std.proofs.Common.{◌≡◌, ◌∙◌, [], Some, ap, refl, subst, sym}
use Rattle.eden_model.specs.Map.{uid_cmp, value_at}
use Rattle.journal.specs.Ejects.{with_queued}
use Rattle.plain_ejects.specs.View.{eject_of}
use Rattle.plain_sites.specs.View.{IsPassive, queue_in}
use Rattle.plain_sites.proofs.Entries.{changed-at, changed-none, found-at, found-none}
use Rattle.plain_stores.specs.View.{ejects_of}
use Rattle.plain_sites.proofs.ejects.take_queue.Goals as goal

pub returns-in-Some-clause-queued : goal.returns-in-Some-clause-queued
returns-in-Some-clause-queued c ts passive =
    let found : value_at uid_cmp c.args.uid (ejects_of ts c.args.entries.now.items) ≡ Some (eject_of ts c.index_mut.result.now.eject) =
    found-at ts c.args.uid c.args.entries.now.items c.deref.result.now c.place_of.result c.in-Some.place c.index_mut.result.now
    c.deref.ensures.value c.place_of.ensures c.in-Some.is c.index_mut.ensures.value in
    c.empty_queue.ensures.queued ts (subst IsPassive found passive) ∙ ap queue_in (sym found)

pub returns-in-Some-clause-after : goal.returns-in-Some-clause-after
returns-in-Some-clause-after c ts order passive =
    let found : value_at uid_cmp c.args.uid (ejects_of ts c.args.entries.now.items) ≡ Some (eject_of ts c.index_mut.result.now.eject) =
    found-at ts c.args.uid c.args.entries.now.items c.deref.result.now c.place_of.result c.in-Some.place c.index_mut.result.now
    c.deref.ensures.value c.place_of.ensures c.in-Some.is c.index_mut.ensures.value in
    changed-at ts c.args.uid c.args.entries.now.items c.deref.result.now c.place_of.result c.in-Some.place c.index_mut.result.now _
    (with_queued []) c.deref.ensures.value c.place_of.ensures c.in-Some.is c.index_mut.ensures.value refl
    (c.empty_queue.ensures.after ts (subst IsPassive found passive)) order

pub returns-in-None-clause-queued : goal.returns-in-None-clause-queued
returns-in-None-clause-queued c ts passive = c.no_calls.ensures ∙ ap queue_in (sym (found-none ts c.args.uid c.args.entries.now.items
    c.deref.result.now c.place_of.result c.deref.ensures.value c.place_of.ensures c.in-None.is))

pub returns-in-None-clause-after : goal.returns-in-None-clause-after
returns-in-None-clause-after c ts order passive = changed-none ts c.args.uid c.args.entries.now.items c.deref.result.now c.place_of.result
    (with_queued []) c.deref.ensures.value c.place_of.ensures c.in-None.is
