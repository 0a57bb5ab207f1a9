use Rattle.std.proofs.Common.{◌≡◌, ◌&&◌, Some, ap, not, subst}
use Rattle.std.specs.Prelude.{◌↔◌, IsSomeAnd, IsTrue, option_copied}
use Rattle.eden_model.specs.Map.{uid_cmp, value_at}
use Rattle.plain_ejects.specs.View.{eject_of}
use Rattle.journal.specs.World.{Site, eject_in}
use Rattle.plain_sites.specs.Activations.{MayWake}
use Rattle.plain_sites.proofs.Awake.{eject-there, may-wake}
use Rattle.plain_stores.specs.View.{ejects_of, site_of}
use Rattle.plain_sites.proofs.activations.may_wake.Goals as goal

pub returns-then-is_asked : goal.returns-then-is_asked
returns-then-is_asked c ts t =
    let e = eject_of ts c.in-Some.eject.now in
    let there : value_at uid_cmp c.args.uid (ejects_of ts c.args.node.now.ejects.items) ≡ Some e =
    eject-there ts c.args.uid c.args.node.now.ejects.items c.deref.result.now (option_copied c.find.result) c.in-Some.eject.now
    c.deref.ensures.value (c.find.ensures ts) (ap option_copied c.in-Some.is) in
    let s : Site = site_of ts t c.args.node.now in
    subst (λ a. IsTrue (a && not c.is_worked_on.result) ↔ IsSomeAnd (eject_in s c.args.uid) (MayWake s c.args.uid)) c.if-is_asked.true
    (may-wake s c.args.uid e c.is_asked.result c.is_worked_on.result there (c.is_asked.ensures ts) (c.is_worked_on.ensures ts t))
