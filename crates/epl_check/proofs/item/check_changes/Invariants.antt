use Rattle.std.proofs.Common.{◌≡◌, drop, map}
use Rattle.std.specs.List.{flat_map}
use Rattle.epl_syntax.specs.Tree.{variable, change}
use Rattle.epl_syntax.specs.Rules.First.{least}
use Rattle.epl_syntax.specs.Rules.InItems.{broken_change}
use Rattle.epl_check.specs.View.{seen}
use Rattle.epl_check.proofs.item.check_changes.Given as goal

abbrev pub invariant-loop-change : goal.invariant-loop-change
invariant-loop-change l =
    least l.first (flat_map (broken_change (seen l.scope) (map variable l.vars)) (map change (drop l.change-index l.changes)))
    ≡ least l.fn.first (flat_map (broken_change (seen l.scope) (map variable l.vars)) (map change l.changes))
