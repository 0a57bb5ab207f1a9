use Rattle.std.proofs.Common.{◌≡◌}
use Rattle.invocation.specs.Mail.{let_go}
use Rattle.invocation.specs.Queues.{sent_from}
use Rattle.invocation.proofs.queues.let_go_from.Given as goal

abbrev pub invariant-loop-other : goal.invariant-loop-other
invariant-loop-other l = l.calls.items ≡ let_go (sent_from l.node l.other l.queues) l.initial.calls.items
