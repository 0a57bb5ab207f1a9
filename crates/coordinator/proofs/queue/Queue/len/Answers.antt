use Rattle.std.proofs.Common.{arith}
use Rattle.coordinator.proofs.Queues.{length-invocations}
use Rattle.coordinator.proofs.queue.Queue.len.Goals as goal

pub returns : goal.returns
returns c =
    rw (← c.self.view_is, length-invocations c.self.inside.calls.items c.self.inside.classes.items c.self.invariant)
    (omega (arith, c.len.ensures))
