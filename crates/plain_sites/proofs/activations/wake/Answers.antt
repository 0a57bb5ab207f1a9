use Rattle.std.proofs.Common.{◌≡◌, ◌∙◌, Some, ap, subst, sym}
use Rattle.std.specs.Prelude.{option_copied}
use Rattle.std.specs.Option.{option_map}
use Rattle.eden_model.specs.Map.{uid_cmp, value_at}
use Rattle.active_part.specs.View.{body_of}
use Rattle.plain_calls.specs.View.{traffic_of}
use Rattle.plain_ejects.specs.View.{eject_of}
use Rattle.plain_sites.specs.Activations.{IsStarted, begun_as, start_of_kept}
use Rattle.plain_sites.specs.View.{IsPassive}
use Rattle.plain_sites.proofs.Awake.{awake-by, eject-there, passive-queue}
use Rattle.plain_stores.specs.View.{ejects_of}
use Rattle.plain_sites.proofs.activations.wake.Goals as goal

pub returns : goal.returns
returns c order passive =
    let ts = c.args.types.now in
    let u = c.args.uid in
    let e = eject_of ts c.in-Some.eject.now in
    let start = begun_as ts c.in-Some-2.begun in
    let b = body_of ts c.in_ok-part.part in
    let there : value_at uid_cmp u (ejects_of ts c.args.node.now.ejects.items) ≡ Some e =
    eject-there ts u c.args.node.now.ejects.items c.deref.result.now (option_copied c.find.result) c.in-Some.eject.now
    c.deref.ensures.value (c.find.ensures ts) (ap option_copied c.in-Some.is) in
    let from : start_of_kept ts u e.kept ≡ Some start = sym c.in_ok-begun.ensures ∙ ap (option_map (begun_as ts)) c.in-Some-2.is in
    let new = traffic_of c.started.new.calls in
    awake-by ts c.args.node.now (traffic_of c.args.calls.now) new u e start b _ there from
    (subst (λ ks. IsStarted start ks (traffic_of c.args.calls.now) new b)
    (c.as_slice.ensures ∙ passive-queue ts c.in-Some.eject.now (subst IsPassive there passive)) c.in_ok-part.ensures)
    (c.enter.ensures ts order)
