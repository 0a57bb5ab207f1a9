use Rattle.std.proofs.Common.{◌≡◌, ◌∙◌, None, Some, ap, sym}
use Rattle.std.specs.Prelude.{option_copied}
use Rattle.std.specs.Option.{option_map}
use Rattle.eden_model.specs.Traffic.{call_at}
use Rattle.plain_calls.specs.View.{call_of, traffic_of}
use Rattle.plain_sites.specs.View.{site_at, waiter_of}
use Rattle.plain_sites.proofs.Deliveries.{heard-quiet, heard-some, hearer-waits}
use Rattle.plain_sites.proofs.messages.hear.Goals as goal

pub returns-in-Some-asker : goal.returns-in-Some-asker
returns-in-Some-asker c ts sound =
    let x = call_of c.in-Some.call.now in
    let there : Some x ≡ call_at (traffic_of c.args.calls.now) c.args.number =
    sym (ap (λ o. option_map call_of (option_copied o)) c.in-Some.is) ∙ c.call.ensures in
    let u = c.in-Some-asker.uid in
    let p = c.in-Some-asker.process in
    let waits : waiter_of x ≡ Some (u, p) = sym c.waiter-asker.ensures ∙ c.in-Some-asker.is in
    heard-some ts c.args.node.now (traffic_of c.args.calls.now) _ c.args.number x u p c.args.status c.args.values _ there waits
    (c.tell.ensures ts sound.node.in_order
    (hearer-waits (site_at ts c.args.node.now c.args.calls.now) c.args.number x u p sound there waits)) c.receive.ensures

pub returns-in-None : goal.returns-in-None
returns-in-None c ts sound =
    let x = call_of c.in-Some.call.now in
    let there : Some x ≡ call_at (traffic_of c.args.calls.now) c.args.number =
    sym (ap (λ o. option_map call_of (option_copied o)) c.in-Some.is) ∙ c.call.ensures in
    let none : waiter_of x ≡ None = sym c.waiter-asker.ensures ∙ c.in-None.is in
    heard-quiet ts c.args.node.now (traffic_of c.args.calls.now) _ c.args.number x c.args.status c.args.values there none c.receive.ensures
