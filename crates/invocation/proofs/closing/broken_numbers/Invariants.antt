use Rattle.std.proofs.Common.{◌≡◌, take}
use Rattle.std.specs.List.{filter}
use Rattle.invocation.specs.Numbers.{passes_at}
use Rattle.invocation.specs.Causes.{is_broken}
use Rattle.invocation.proofs.closing.broken_numbers.Given as goal

abbrev pub invariant-loop-i : goal.invariant-loop-i
invariant-loop-i l = l.broken.items ≡ filter (passes_at (is_broken l.cause) l.calls) (take l.i l.index)
