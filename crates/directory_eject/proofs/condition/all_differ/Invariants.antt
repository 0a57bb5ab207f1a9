use Rattle.std.proofs.Common.{◌≡◌, drop}
use Rattle.eden_value.specs.View.{datums}
use Rattle.epl_syntax.specs.Directory.{all_differ}
use Rattle.directory_eject.proofs.condition.all_differ.Given as goal

abbrev pub invariant-loop-i : goal.invariant-loop-i
invariant-loop-i l = all_differ (datums (drop l.i l.values)) ≡ all_differ (datums l.values)
