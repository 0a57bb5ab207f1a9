use Rattle.epl_syntax.specs.Tree.{expression}
use Rattle.epl_syntax.specs.Rules.InExpressions.{broken_expression}
use Rattle.epl_check.specs.View.{seen}
use Rattle.epl_check.proofs.Least.{turn}
use Rattle.epl_check.proofs.statement.check_expressions.Goals as goal

pub loop-e-preserved : goal.loop-e-preserved
loop-e-preserved c =
    turn (λ e. broken_expression (seen c.args.scope.now) c.args.held (expression e)) c.args.es.now c.loop-e.e-index c.e-item.result
    c.loop-e.first c.check_expression.new.first _ c.loop-e-test.true c.e-item.is c.in_ok-check_expression.ensures.told c.loop-e.invariant
