use Rattle.std.proofs.Common.{◌≡◌, drop}
use Rattle.std.specs.List.{flat_map}
use Rattle.epl_syntax.specs.Tree.{expression}
use Rattle.epl_syntax.specs.Rules.First.{least}
use Rattle.epl_syntax.specs.Rules.InExpressions.{broken_expression}
use Rattle.epl_check.specs.View.{seen}
use Rattle.epl_check.proofs.statement.check_expressions.Given as goal

abbrev pub invariant-loop-e : goal.invariant-loop-e
invariant-loop-e l = least l.first (flat_map (λ e. broken_expression (seen l.scope) l.held (expression e)) (drop l.e-index l.es))
    ≡ least l.fn.first (flat_map (λ e. broken_expression (seen l.scope) l.held (expression e)) l.es)
