use Rattle.std.proofs.Common.{◌≡◌, drop, map}
use Rattle.std.specs.List.{flat_map}
use Rattle.epl_syntax.specs.Tree.{parameter}
use Rattle.epl_syntax.specs.Rules.First.{least}
use Rattle.epl_syntax.specs.Rules.InItems.{broken_param}
use Rattle.epl_check.proofs.item.check_params.Given as goal

abbrev pub invariant-loop-p : goal.invariant-loop-p
invariant-loop-p l =
    least l.first (flat_map broken_param (map parameter (drop l.p-index l.params)))
    ≡ least l.fn.first (flat_map broken_param (map parameter l.params))
