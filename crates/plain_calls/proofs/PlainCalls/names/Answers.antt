use Rattle.std.proofs.Common.{◌<◌, ◌∙◌, ap, arith, get_or, length}
use Rattle.eden_model.specs.Traffic as traffic
use Rattle.plain_calls.specs.View.{traffic_of, hits_of}
use Rattle.plain_calls.proofs.Lists.{names-step}
use Rattle.plain_calls.proofs.PlainCalls.names.Goals as goal

pub loop-call-preserved : goal.loop-call-preserved
loop-call-preserved c =
    let cs = c.args.self.now.calls.items in
    let less : c.loop-call.call-index < length cs = omega (arith, c.loop-call-test.true, ap length c.deref-call-items.ensures.value) in
    names-step c.args.among c.loop-call.call-index cs c.call-item.result c.loop-call.names.items c.list_name.new.names.items
    (traffic.names_of (hits_of c.args.among) (traffic_of c.args.self.now)) c.args.self.now.transit.items less
    (c.call-item.is ∙ ap (λ l. get_or l c.loop-call.call-index c.call-item.result) c.deref-call-items.ensures.value)
    c.in_ok-list_name.ensures c.loop-call.invariant
