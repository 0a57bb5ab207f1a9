use Rattle.coordinator.proofs.Queues.{invocations-push}
use Rattle.coordinator.proofs.queue.Queue.push.Goals as goal

pub returns-clause-pushed : goal.returns-clause-pushed
returns-clause-pushed c =
    rw (
      ← c.self.view_is,
      c.push_reserved.ensures.items,
      c.push_reserved-2.ensures.items,
      c.reserve.ensures.items,
      c.reserve-2.ensures.items,
    )
    (invocations-push c.self.inside.calls.items c.self.inside.classes.items c.args.call c.args.class c.self.invariant)
