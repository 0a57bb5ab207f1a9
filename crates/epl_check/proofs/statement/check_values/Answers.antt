use Rattle.epl_check.specs.View.{seen, kind_wanted}
use Rattle.epl_check.proofs.Rows.{kind_at, values_turn}
use Rattle.epl_check.proofs.statement.check_values.Goals as goal

pub loop-i-preserved : goal.loop-i-preserved
loop-i-preserved c =
    values_turn (seen c.args.scope.now) c.args.held c.args.wanted.now c.args.values.now c.loop-i.i c.index-values-i.result
    (kind_wanted c.get.result) c.loop-i.first c.check_value.new.first _ c.loop-i-test.true c.index-values-i.is
    (kind_at c.args.wanted.now c.loop-i.i c.get.result c.get.ensures.lookup) c.in_ok-check_value.ensures c.loop-i.invariant
