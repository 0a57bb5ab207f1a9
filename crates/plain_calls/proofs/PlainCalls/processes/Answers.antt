use Rattle.std.proofs.Common.{◌<◌, ◌∙◌, ap, arith, get_or, length}
use Rattle.eden_model.specs.Traffic as traffic
use Rattle.plain_calls.specs.View.{traffic_of, hits_of}
use Rattle.plain_calls.proofs.Lists.{processes-step}
use Rattle.plain_calls.proofs.PlainCalls.processes.Goals as goal

pub loop-call-preserved : goal.loop-call-preserved
loop-call-preserved c =
    let cs = c.args.self.now.calls.items in
    let less : c.loop-call.call-index < length cs = omega (arith, c.loop-call-test.true, ap length c.deref-call-items.ensures.value) in
    processes-step c.args.among c.loop-call.call-index cs c.call-item.result c.loop-call.processes.items c.list_process.new.processes.items
    (traffic.processes_of (hits_of c.args.among) (traffic_of c.args.self.now)) c.args.self.now.transit.items less
    (c.call-item.is ∙ ap (λ l. get_or l c.loop-call.call-index c.call-item.result) c.deref-call-items.ensures.value)
    c.in_ok-list_process.ensures c.loop-call.invariant
