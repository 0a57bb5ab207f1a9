use Rattle.epl_syntax.specs.Tree.{type_tree, operation}
use Rattle.epl_syntax.specs.Rules.InItems.{broken_operation}
use Rattle.epl_check.specs.View.{types_seen}
use Rattle.epl_check.proofs.Least.{map_turn}
use Rattle.epl_check.proofs.item.check_operations.Goals as goal

pub loop-o-preserved : goal.loop-o-preserved
loop-o-preserved c =
    let around = c.args.around.now in
    let program = around.program.now in
    map_turn (broken_operation (type_tree program) (types_seen program.name around.earlier.now)) operation c.deref-o-items.result.now
    c.loop-o.o-index
    c.o-item.result c.loop-o.first c.check_operation.new.first _ c.loop-o-test.true c.o-item.is c.in_ok-check_operation.ensures
    c.loop-o.invariant
