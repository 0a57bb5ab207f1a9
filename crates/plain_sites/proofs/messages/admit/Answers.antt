use Rattle.std.proofs.Common.{◌≡◌, ◌∙◌, None, Some, ap, sym}
use Rattle.std.specs.Prelude.{option_copied}
use Rattle.std.specs.Option.{option_map}
use Rattle.eden_model.specs.Traffic.{call_at}
use Rattle.plain_calls.specs.View.{call_of, traffic_of}
use Rattle.plain_sites.specs.View.{site_at}
use Rattle.plain_sites.proofs.Deliveries.{admitted-as, allowed-call, allowed-room, none-of}
use Rattle.plain_sites.proofs.messages.admit.Goals as goal

pub returns-in_default : goal.returns-in_default
returns-in_default c a b sound may =
    absurd (allowed-call (site_at c.args.types.now c.args.node.now c.args.calls.now) c.args.number a b None
    (sym (ap (λ o. option_map call_of (option_copied o)) (none-of c.call.result c.in_default.not-Some)) ∙ c.call.ensures) may)

pub returns : goal.returns
returns c a b sound may =
    let x = call_of c.in-Some.call.now in
    let there : Some x ≡ call_at (traffic_of c.args.calls.now) c.args.number =
    sym (ap (λ o. option_map call_of (option_copied o)) c.in-Some.is) ∙ c.call.ensures in
    admitted-as c.args.types.now c.args.node.now (traffic_of c.args.calls.now) _ c.args.number x _ there
    (c.in_ok-join.ensures c.args.types.now sound.node.in_order
    (allowed-room (site_at c.args.types.now c.args.node.now c.args.calls.now) c.args.number a b x there may)) c.hold.ensures
