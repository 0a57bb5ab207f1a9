use Rattle.std.proofs.Common.{refl}
use Rattle.active_part.specs.View.{body_of}
use Rattle.plain_ejects.specs.View.{with_body}
use Rattle.plain_sites.proofs.Entries.{changed-at, changed-none}
use Rattle.plain_sites.proofs.wakings.enter.Goals as goal

pub returns-in-Some : goal.returns-in-Some
returns-in-Some c ts order = changed-at ts c.args.uid c.args.entries.now.items c.deref.result.now c.place_of.result
    c.in-Some.place c.index_mut.result.now _ (with_body (body_of ts c.args.part)) c.deref.ensures.value c.place_of.ensures c.in-Some.is
    c.index_mut.ensures.value refl (c.wake.ensures ts) order

pub returns-in-None : goal.returns-in-None
returns-in-None c ts order = changed-none ts c.args.uid c.args.entries.now.items c.deref.result.now c.place_of.result
    (with_body (body_of ts c.args.part)) c.deref.ensures.value c.place_of.ensures c.in-None.is
