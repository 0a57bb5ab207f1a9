use Rattle.std.proofs.Common.{refl}
use Rattle.journal.specs.Ejects.{on_active}
use Rattle.plain_sites.specs.Turns.{done_by}
use Rattle.plain_sites.proofs.Entries.{changed-at, changed-none, found-at}
use Rattle.plain_sites.proofs.Turning.{same-eject}
use Rattle.plain_stores.specs.View.{ejects_of}
use Rattle.plain_sites.proofs.processes.act_at.Goals as goal

pub returns-in-Some : goal.returns-in-Some
returns-in-Some c ts e it h may =
    let found = found-at ts c.args.uid c.args.entries.now.items c.deref.result.now c.place_of.result c.in-Some.place
    c.index_mut.result.now c.deref.ensures.value c.place_of.ensures c.in-Some.is c.index_mut.ensures.value in
    changed-at ts c.args.uid c.args.entries.now.items c.deref.result.now c.place_of.result c.in-Some.place c.index_mut.result.now _
    (on_active (done_by c.args.deed c.args.process)) c.deref.ensures.value c.place_of.ensures c.in-Some.is c.index_mut.ensures.value refl
    (c.act.ensures ts it (same-eject (ejects_of ts c.args.entries.now.items) c.args.uid c.args.process e _ it h found) h.runs may)
    h.in_order

pub returns-in-None : goal.returns-in-None
returns-in-None c ts e it h may = changed-none ts c.args.uid c.args.entries.now.items c.deref.result.now c.place_of.result
    (on_active (done_by c.args.deed c.args.process)) c.deref.ensures.value c.place_of.ensures c.in-None.is
