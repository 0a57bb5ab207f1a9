use Rattle.std.proofs.Common.{drop}
use Rattle.epl_syntax.specs.Bindings.{has_binding, variable}
use Rattle.epl_check.specs.Noted.{names_of, NotedFrom}
use Rattle.epl_check.proofs.noted.note_variables.Given as goal

abbrev pub invariant-loop-name : goal.invariant-loop-name
invariant-loop-name l =
    NotedFrom l.stood l.fn.bindings l.bindings (has_binding l.fn.bindings (names_of l.names) variable) (drop l.name-index l.items) l.items
