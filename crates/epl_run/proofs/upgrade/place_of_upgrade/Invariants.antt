use Rattle.std.proofs.Common.{◌≡◌, drop, map}
use Rattle.std.specs.List.{find}
use Rattle.epl_syntax.specs.Tree.{type_tree, upgrade}
use Rattle.epl_syntax.specs.Upgrades.{upgrade_for}
use Rattle.epl_run.specs.Upgraded.{takes}
use Rattle.epl_run.proofs.upgrade.place_of_upgrade.Given as goal

abbrev pub invariant-loop-at : goal.invariant-loop-at
invariant-loop-at l =
    find (λ x. takes x l.rep.version l.rep.values) (drop l.at (map upgrade l.program.upgrades.items)) ≡ upgrade_for (type_tree l.program)
    l.rep
