use Rattle.std.proofs.Common.{◌≡◌, take}
use Rattle.invocation.specs.Mail.{let_go}
use Rattle.invocation.proofs.queues.Queue.let_go.Given as goal

abbrev pub invariant-loop-i : goal.invariant-loop-i
invariant-loop-i l = l.calls.items ≡ let_go (take l.i l.self-inside.messages.items) l.initial.calls.items
