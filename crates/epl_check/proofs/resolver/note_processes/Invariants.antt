use Rattle.std.proofs.Common.{drop, map}
use Rattle.epl_syntax.specs.Bindings.{process_resolved}
use Rattle.epl_syntax.specs.Tree.{type_tree, process}
use Rattle.epl_check.specs.Noted.{NotedFrom}
use Rattle.epl_check.proofs.resolver.note_processes.Given as goal

abbrev pub invariant-loop-p : goal.invariant-loop-p
invariant-loop-p l =
    NotedFrom l.stood l.fn.bindings l.bindings
    (process_resolved l.fn.bindings (type_tree l.program)) (map process (drop l.p-index l.p-items)) (map process l.p-items)
