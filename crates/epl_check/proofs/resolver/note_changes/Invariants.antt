use Rattle.std.proofs.Common.{drop, map}
use Rattle.std.specs.Prelude.{◌&&◌}
use Rattle.epl_syntax.specs.Bindings.{has_binding, each_of_expression, variable}
use Rattle.epl_syntax.specs.Tree.{change}
use Rattle.epl_check.specs.Noted.{names_of, NotedFrom}
use Rattle.epl_check.proofs.resolver.note_changes.Given as goal

abbrev pub invariant-loop-change : goal.invariant-loop-change
invariant-loop-change l =
    NotedFrom l.stood l.fn.bindings l.bindings
    (λ c. has_binding l.fn.bindings (names_of l.names) variable c.name
    && each_of_expression (has_binding l.fn.bindings (names_of l.names)) c.value)
    (map change (drop l.change-index l.changes)) (map change l.changes)
