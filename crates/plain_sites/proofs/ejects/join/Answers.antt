use Rattle.std.proofs.Common.{◌≡◌, ◌<◌, Some, length, refl, subst}
use Rattle.std.specs.Prelude.{IfSome}
use Rattle.eden_model.specs.Map.{uid_cmp, value_at}
use Rattle.plain_ejects.specs.View.{eject_of}
use Rattle.plain_sites.specs.View.{joined}
use Rattle.plain_sites.proofs.Entries.{changed-at, changed-none, found-at}
use Rattle.plain_stores.specs.View.{ejects_of}
use Rattle.plain_sites.proofs.ejects.join.Goals as goal

pub returns-in_ok-join_queue-in-Some : goal.returns-in_ok-join_queue-in-Some
returns-in_ok-join_queue-in-Some c ts order few =
    let found : value_at uid_cmp c.args.uid (ejects_of ts c.args.entries.now.items) ≡ Some (eject_of ts c.index_mut.result.now.eject) =
    found-at ts c.args.uid c.args.entries.now.items c.deref.result.now c.place_of.result c.in-Some.place c.index_mut.result.now
    c.deref.ensures.value c.place_of.ensures c.in-Some.is c.index_mut.ensures.value in
    changed-at ts c.args.uid c.args.entries.now.items c.deref.result.now c.place_of.result c.in-Some.place c.index_mut.result.now _
    (joined c.args.call) c.deref.ensures.value c.place_of.ensures c.in-Some.is c.index_mut.ensures.value refl
    (c.in_ok-join_queue-in-Some.ensures ts (subst (λ o. IfSome o (λ e. length e.queued < 64)) found few)) order

pub returns-in-None : goal.returns-in-None
returns-in-None c ts order few = changed-none ts c.args.uid c.args.entries.now.items c.deref.result.now c.place_of.result
    (joined c.args.call) c.deref.ensures.value c.place_of.ensures c.in-None.is
