use Rattle.std.proofs.Common.{sym}
use Rattle.coordinator.proofs.Queues.{invocations-calls}
use Rattle.coordinator.proofs.queue.Queue.into_numbers.Goals as goal

pub returns : goal.returns
returns c = rw (← c.self.view_is) (sym (invocations-calls c.self.inside.calls.items c.self.inside.classes.items c.self.invariant))
