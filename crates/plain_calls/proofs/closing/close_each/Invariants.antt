use Rattle.std.proofs.Common.{◌≡◌, map}
use Rattle.plain_calls.specs.View.{call_of}
use Rattle.plain_calls.specs.Changes.{closed_by}
use Rattle.plain_calls.proofs.Lists.{changed_front}
use Rattle.plain_calls.proofs.closing.close_each.Given as goal

abbrev pub invariant-loop-i : goal.invariant-loop-i
invariant-loop-i l = map call_of l.calls.items ≡ changed_front l.i (closed_by l.cause) (map call_of l.initial.calls.items)
