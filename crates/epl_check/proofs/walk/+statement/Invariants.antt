use Rattle.std.proofs.Common.{drop, map}
use Rattle.epl_syntax.specs.Bindings.{has_binding, each_of_statement}
use Rattle.epl_syntax.specs.Tree.{statement}
use Rattle.epl_check.specs.Noted.{names_of, NotedFrom}
use Rattle.epl_check.proofs.walk.+statement.Given as goal

abbrev pub invariant-note_block-loop-s : goal.invariant-note_block-loop-s
invariant-note_block-loop-s l =
    NotedFrom l.stood l.fn.bindings l.bindings
    (each_of_statement (has_binding l.fn.bindings (names_of l.names))) (map statement (drop l.s-index l.body)) (map statement l.body)
