use Rattle.std.proofs.Common.{◌≡◌, ◌++◌, drop}
use Rattle.eden_value.specs.View.{datums}
use Rattle.eden_value.specs.Printed.{row_behind}
use Rattle.journal.proofs.lines.add_behind.Given as goal

abbrev pub invariant-loop-value : goal.invariant-loop-value
invariant-loop-value l = l.out.items ++ row_behind (datums (drop l.value-index l.values)) ≡ l.fn.out.items ++ row_behind (datums l.values)
