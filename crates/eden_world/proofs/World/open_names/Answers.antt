use Rattle.std.proofs.Common.{◌≤◌, length, subst}
use Rattle.eden_world.proofs.OpenCalls.{Lists, call-more, names-listed}
use Rattle.eden_world.proofs.World.open_names.Goals as goal

pub loop-asked-preserved : goal.loop-asked-preserved
loop-asked-preserved g c =
    call-more c.loop-asked.names.items c.list_if_open.new.names.items c.all-calls.result.now c.loop-asked.asked-index c.asked-item.result
    c.loop-asked-test.true c.asked-item.is c.in_ok-list_if_open.ensures c.loop-asked.invariant

pub returns : goal.returns
returns g c =
    let calls = c.all-calls.ensures in
    names-listed c.loop-asked.names.items c.args.self.now.calls c.loop-asked.asked-index
    (subst (λ cs. length cs ≤ c.loop-asked.asked-index) calls c.loop-asked-test.false)
    (subst (Lists c.loop-asked.names.items c.loop-asked.asked-index) calls c.loop-asked.invariant)
