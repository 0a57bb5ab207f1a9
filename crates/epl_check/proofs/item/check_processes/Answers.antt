use Rattle.epl_syntax.specs.Tree.{type_tree, process}
use Rattle.epl_syntax.specs.Rules.InItems.{broken_process}
use Rattle.epl_check.specs.View.{types_seen}
use Rattle.epl_check.proofs.Least.{map_turn}
use Rattle.epl_check.proofs.item.check_processes.Goals as goal

pub loop-p-preserved : goal.loop-p-preserved
loop-p-preserved c =
    let around = c.args.around.now in
    let program = around.program.now in
    map_turn (broken_process (type_tree program) (types_seen program.name around.earlier.now)) process c.deref-p-items.result.now
    c.loop-p.p-index
    c.p-item.result c.loop-p.first c.check_process.new.first _ c.loop-p-test.true c.p-item.is c.in_ok-check_process.ensures
    c.loop-p.invariant
