use Rattle.std.proofs.Common.{drop, map}
use Rattle.epl_syntax.specs.Bindings.{has_binding, each_of_expression}
use Rattle.epl_syntax.specs.Tree.{expression}
use Rattle.epl_check.specs.Noted.{names_of, NotedFrom}
use Rattle.epl_check.proofs.walk.+expression.Given as goal

abbrev pub invariant-note_expressions-loop-e : goal.invariant-note_expressions-loop-e
invariant-note_expressions-loop-e l =
    NotedFrom l.stood l.fn.bindings l.bindings
    (each_of_expression (has_binding l.fn.bindings (names_of l.names))) (map expression (drop l.e-index l.es)) (map expression l.es)
