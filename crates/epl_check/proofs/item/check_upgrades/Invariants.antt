use Rattle.std.proofs.Common.{◌≡◌, drop, map}
use Rattle.std.specs.List.{flat_map}
use Rattle.epl_syntax.specs.Tree.{type_tree, upgrade}
use Rattle.epl_syntax.specs.Rules.First.{least}
use Rattle.epl_syntax.specs.Rules.InItems.{broken_upgrade}
use Rattle.epl_check.specs.View.{types_seen}
use Rattle.epl_check.proofs.item.check_upgrades.Given as goal

abbrev pub invariant-loop-u : goal.invariant-loop-u
invariant-loop-u l =
    least l.first (flat_map (broken_upgrade (type_tree l.around.program.now) (types_seen l.around.program.now.name l.around.earlier.now))
    (map upgrade (drop l.u-index l.u-items)))
    ≡ least l.fn.first (flat_map (broken_upgrade (type_tree l.around.program.now)
    (types_seen l.around.program.now.name l.around.earlier.now))
    (map upgrade l.u-items))
