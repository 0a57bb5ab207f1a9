use Rattle.std.proofs.Common.{◌≡◌, ◌++◌, drop, map, suc}
use Rattle.eden_model.specs.Traffic as traffic
use Rattle.plain_calls.specs.View.{call_of, numbered, traffic_of, hits_of}
use Rattle.plain_calls.proofs.PlainCalls.processes.Given as goal

-- those so far, and those of the calls that are left, are all
abbrev pub invariant-loop-call : goal.invariant-loop-call
invariant-loop-call l = l.processes.items ++ traffic.processes_of (hits_of l.fn.among)
    (record {
      calls = numbered (suc l.call-index) (map call_of (drop l.call-index l.fn.self.calls.items));
      transit = l.fn.self.transit.items;
    })
    ≡ traffic.processes_of (hits_of l.fn.among) (traffic_of l.fn.self)
