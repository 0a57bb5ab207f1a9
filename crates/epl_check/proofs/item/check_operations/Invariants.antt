use Rattle.std.proofs.Common.{◌≡◌, drop, map}
use Rattle.std.specs.List.{flat_map}
use Rattle.epl_syntax.specs.Tree.{type_tree, operation}
use Rattle.epl_syntax.specs.Rules.First.{least}
use Rattle.epl_syntax.specs.Rules.InItems.{broken_operation}
use Rattle.epl_check.specs.View.{types_seen}
use Rattle.epl_check.proofs.item.check_operations.Given as goal

abbrev pub invariant-loop-o : goal.invariant-loop-o
invariant-loop-o l =
    least l.first (flat_map (broken_operation (type_tree l.around.program.now) (types_seen l.around.program.now.name l.around.earlier.now))
    (map operation (drop l.o-index l.o-items)))
    ≡ least l.fn.first (flat_map (broken_operation (type_tree l.around.program.now)
    (types_seen l.around.program.now.name l.around.earlier.now))
    (map operation l.o-items))
