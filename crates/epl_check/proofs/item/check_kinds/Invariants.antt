use Rattle.std.proofs.Common.{◌≡◌, drop, map}
use Rattle.std.specs.List.{flat_map}
use Rattle.epl_syntax.specs.Tree.{written}
use Rattle.epl_syntax.specs.Rules.First.{least}
use Rattle.epl_syntax.specs.Rules.InExpressions.{broken_kind}
use Rattle.epl_check.proofs.item.check_kinds.Given as goal

abbrev pub invariant-loop-kind : goal.invariant-loop-kind
invariant-loop-kind l =
    least l.first (flat_map broken_kind (map written (drop l.kind-index l.kinds)))
    ≡ least l.fn.first (flat_map broken_kind (map written l.kinds))
