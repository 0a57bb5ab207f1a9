use Rattle.std.proofs.Common.{◌≡◌, ◌≤◌, ◌-◌, length}
use Rattle.coordinator.specs.Queued.{invocations}
use Rattle.coordinator.proofs.Queues.{without_from}
use Rattle.coordinator.proofs.queue.remove_from.Given as goal

-- what stands from the place on has lost the call
abbrev pub invariant-loop-done : goal.invariant-loop-done
invariant-loop-done l = record {
  after : invocations l.calls.items l.classes.items ≡ without_from (l.count - l.done) l.call
      (invocations l.initial.calls.items l.initial.classes.items);
  same : length l.calls.items ≡ length l.classes.items;
  enough : l.count - l.done ≤ length l.calls.items;
}
