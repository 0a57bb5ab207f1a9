use Rattle.std.proofs.Common.{drop, map}
use Rattle.epl_syntax.specs.Bindings.{operation_resolved}
use Rattle.epl_syntax.specs.Tree.{type_tree, operation}
use Rattle.epl_check.specs.Noted.{NotedFrom}
use Rattle.epl_check.proofs.resolver.note_operations.Given as goal

abbrev pub invariant-loop-o : goal.invariant-loop-o
invariant-loop-o l =
    NotedFrom l.stood l.fn.bindings l.bindings
    (operation_resolved l.fn.bindings (type_tree l.program)) (map operation (drop l.o-index l.o-items)) (map operation l.o-items)
