use Rattle.std.proofs.Common.{refl}
use Rattle.journal.specs.Ejects.{on_active}
use Rattle.journal.specs.Processes.{without_process}
use Rattle.plain_sites.proofs.Entries.{changed-at, changed-none, found-at, found-none}
use Rattle.plain_sites.proofs.Turning.{not-there, same-eject}
use Rattle.plain_stores.specs.View.{ejects_of}
use Rattle.plain_sites.proofs.processes.end_at.Goals as goal

pub returns-in-Some-clause-served : goal.returns-in-Some-clause-served
returns-in-Some-clause-served c ts e it h =
    let found = found-at ts c.args.uid c.args.entries.now.items c.deref.result.now c.place_of.result c.in-Some.place
    c.index_mut.result.now c.deref.ensures.value c.place_of.ensures c.in-Some.is c.index_mut.ensures.value in
    c.end.ensures.served ts it (same-eject (ejects_of ts c.args.entries.now.items) c.args.uid c.args.process e _ it h found) h.runs

pub returns-in-Some-clause-after : goal.returns-in-Some-clause-after
returns-in-Some-clause-after c ts e it h =
    let found = found-at ts c.args.uid c.args.entries.now.items c.deref.result.now c.place_of.result c.in-Some.place
    c.index_mut.result.now c.deref.ensures.value c.place_of.ensures c.in-Some.is c.index_mut.ensures.value in
    changed-at ts c.args.uid c.args.entries.now.items c.deref.result.now c.place_of.result c.in-Some.place c.index_mut.result.now _
    (on_active (without_process c.args.process)) c.deref.ensures.value c.place_of.ensures c.in-Some.is c.index_mut.ensures.value refl
    (c.end.ensures.after ts it (same-eject (ejects_of ts c.args.entries.now.items) c.args.uid c.args.process e _ it h found) h.runs)
    h.in_order

pub returns-in-None-clause-served : goal.returns-in-None-clause-served
returns-in-None-clause-served c ts e it h = absurd (not-there (ejects_of ts c.args.entries.now.items) c.args.uid c.args.process e it h
    (found-none ts c.args.uid c.args.entries.now.items c.deref.result.now c.place_of.result c.deref.ensures.value
    c.place_of.ensures c.in-None.is))

pub returns-in-None-clause-after : goal.returns-in-None-clause-after
returns-in-None-clause-after c ts e it h = changed-none ts c.args.uid c.args.entries.now.items c.deref.result.now c.place_of.result
    (on_active (without_process c.args.process)) c.deref.ensures.value c.place_of.ensures c.in-None.is
