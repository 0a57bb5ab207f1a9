use Rattle.std.proofs.Common.{◌≡◌, length}
use Rattle.invocation.specs.Queues.{cleared}
use Rattle.invocation.proofs.queues.clear_at.Given as goal

abbrev pub invariant-loop-other : goal.invariant-loop-other
invariant-loop-other l = record {
  queues : l.queues.items ≡ cleared l.node l.other l.initial.queues.items;
  pairs : length l.queues.items ≡ 81;
}
