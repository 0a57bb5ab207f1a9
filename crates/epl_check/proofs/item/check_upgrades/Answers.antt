use Rattle.epl_syntax.specs.Tree.{type_tree, upgrade}
use Rattle.epl_syntax.specs.Rules.InItems.{broken_upgrade}
use Rattle.epl_check.specs.View.{types_seen}
use Rattle.epl_check.proofs.Least.{map_turn}
use Rattle.epl_check.proofs.item.check_upgrades.Goals as goal

pub loop-u-preserved : goal.loop-u-preserved
loop-u-preserved c =
    let around = c.args.around.now in
    let program = around.program.now in
    map_turn (broken_upgrade (type_tree program) (types_seen program.name around.earlier.now)) upgrade c.deref-u-items.result.now
    c.loop-u.u-index
    c.u-item.result c.loop-u.first c.check_upgrade.new.first _ c.loop-u-test.true c.u-item.is c.in_ok-check_upgrade.ensures
    c.loop-u.invariant
