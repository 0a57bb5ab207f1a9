use Rattle.std.proofs.Common.{◌≡◌, Some, None, ap, is_some, sym}
use Rattle.std.specs.Prelude.{option_copied}
use Rattle.eden_model.specs.Map.{uid_cmp, value_at}
use Rattle.plain_ejects.specs.View.{eject_of}
use Rattle.plain_sites.proofs.Awake.{eject-absent, eject-there, facts-as}
use Rattle.plain_sites.proofs.Deliveries.{none-of}
use Rattle.plain_stores.specs.View.{ejects_of, site_of}
use Rattle.plain_sites.proofs.activations.start_facts.Goals as goal

pub returns-clause-facts : goal.returns-clause-facts
returns-clause-facts c t =
    let ts = c.args.types.now in
    let e = eject_of ts c.in-Some.eject.now in
    let there : value_at uid_cmp c.args.uid (ejects_of ts c.args.node.now.ejects.items) ≡ Some e =
    eject-there ts c.args.uid c.args.node.now.ejects.items c.deref.result.now (option_copied c.find.result) c.in-Some.eject.now
    c.deref.ensures.value (c.find.ensures ts) (ap option_copied c.in-Some.is) in
    facts-as _ (site_of ts t c.args.node.now) c.args.uid e there (c.is_to_settle.ensures ts t) c.in_ok-old.ensures c.in_ok-new.ensures

pub returns-clause-there : goal.returns-clause-there
returns-clause-there c t =
    let ts = c.args.types.now in
    let there : value_at uid_cmp c.args.uid (ejects_of ts c.args.node.now.ejects.items) ≡ Some (eject_of ts c.in-Some.eject.now) =
    eject-there ts c.args.uid c.args.node.now.ejects.items c.deref.result.now (option_copied c.find.result) c.in-Some.eject.now
    c.deref.ensures.value (c.find.ensures ts) (ap option_copied c.in-Some.is) in
    ap is_some (sym there)

pub returns-in_default-clause-there : goal.returns-in_default-clause-there
returns-in_default-clause-there c t =
    let ts = c.args.types.now in
    let none : value_at uid_cmp c.args.uid (ejects_of ts c.args.node.now.ejects.items) ≡ None =
    eject-absent ts c.args.uid c.args.node.now.ejects.items c.deref.result.now (option_copied c.find.result) c.deref.ensures.value
    (c.find.ensures ts) (ap option_copied (none-of c.find.result c.in_default.not-Some)) in
    ap is_some (sym none)
