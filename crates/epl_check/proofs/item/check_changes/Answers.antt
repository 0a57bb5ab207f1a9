use Rattle.std.proofs.Common.{map}
use Rattle.epl_syntax.specs.Tree.{variable, change}
use Rattle.epl_syntax.specs.Rules.InItems.{broken_change}
use Rattle.epl_check.specs.View.{seen}
use Rattle.epl_check.proofs.Least.{map_turn}
use Rattle.epl_check.proofs.item.check_changes.Goals as goal

pub loop-change-preserved : goal.loop-change-preserved
loop-change-preserved c =
    map_turn (broken_change (seen c.args.scope.now) (map variable c.args.vars.now)) change c.args.changes.now c.loop-change.change-index
    c.change-item.result c.loop-change.first c.check_change.new.first _ c.loop-change-test.true c.change-item.is
    c.in_ok-check_change.ensures c.loop-change.invariant
