use Rattle.std.proofs.Common.{◌≡◌, drop, map}
use Rattle.epl_syntax.specs.Tree.{expression, written}
use Rattle.epl_syntax.specs.Rules.First.{least}
use Rattle.epl_syntax.specs.Rules.InStatements.{broken_values}
use Rattle.epl_check.specs.View.{seen}
use Rattle.epl_check.proofs.statement.check_values.Given as goal

abbrev pub invariant-loop-i : goal.invariant-loop-i
invariant-loop-i l =
    least l.first (broken_values (seen l.scope) l.held (map written (drop l.i l.wanted)) (map expression (drop l.i l.values)))
    ≡ least l.fn.first (broken_values (seen l.scope) l.held (map written l.wanted) (map expression l.values))
