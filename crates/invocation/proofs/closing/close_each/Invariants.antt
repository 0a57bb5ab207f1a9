use Rattle.std.proofs.Common.{◌≡◌, take}
use Rattle.invocation.specs.Numbers.{changed_at_all}
use Rattle.invocation.specs.Causes.{closed_by}
use Rattle.invocation.proofs.closing.close_each.Given as goal

abbrev pub invariant-loop-i : goal.invariant-loop-i
invariant-loop-i l = l.calls.items ≡ changed_at_all (closed_by l.cause) 1 (take l.i l.index) l.initial.calls.items
