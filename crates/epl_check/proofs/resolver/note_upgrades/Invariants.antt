use Rattle.std.proofs.Common.{drop, map}
use Rattle.epl_syntax.specs.Bindings.{upgrade_resolved}
use Rattle.epl_syntax.specs.Tree.{type_tree, upgrade}
use Rattle.epl_check.specs.Noted.{NotedFrom}
use Rattle.epl_check.proofs.resolver.note_upgrades.Given as goal

abbrev pub invariant-loop-u : goal.invariant-loop-u
invariant-loop-u l =
    NotedFrom l.stood l.fn.bindings l.bindings
    (upgrade_resolved l.fn.bindings (type_tree l.program)) (map upgrade (drop l.u-index l.u-items)) (map upgrade l.u-items)
