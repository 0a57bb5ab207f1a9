use Rattle.std.proofs.Common.{◌≡◌, drop, map}
use Rattle.std.specs.List.{flat_map}
use Rattle.epl_syntax.specs.Tree.{variable}
use Rattle.epl_syntax.specs.Rules.First.{least}
use Rattle.epl_syntax.specs.Rules.InItems.{broken_var}
use Rattle.epl_check.proofs.item.check_vars.Given as goal

abbrev pub invariant-loop-v : goal.invariant-loop-v
invariant-loop-v l =
    least l.first (flat_map broken_var (map variable (drop l.v-index l.vars)))
    ≡ least l.fn.first (flat_map broken_var (map variable l.vars))
