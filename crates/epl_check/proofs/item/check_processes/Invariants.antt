use Rattle.std.proofs.Common.{◌≡◌, drop, map}
use Rattle.std.specs.List.{flat_map}
use Rattle.epl_syntax.specs.Tree.{type_tree, process}
use Rattle.epl_syntax.specs.Rules.First.{least}
use Rattle.epl_syntax.specs.Rules.InItems.{broken_process}
use Rattle.epl_check.specs.View.{types_seen}
use Rattle.epl_check.proofs.item.check_processes.Given as goal

abbrev pub invariant-loop-p : goal.invariant-loop-p
invariant-loop-p l =
    least l.first (flat_map (broken_process (type_tree l.around.program.now) (types_seen l.around.program.now.name l.around.earlier.now))
    (map process (drop l.p-index l.p-items)))
    ≡ least l.fn.first (flat_map (broken_process (type_tree l.around.program.now)
    (types_seen l.around.program.now.name l.around.earlier.now))
    (map process l.p-items))
