use Rattle.std.proofs.Common.{◌≡◌, drop, map}
use Rattle.std.specs.List.{flat_map}
use Rattle.epl_syntax.specs.Tree.{local_of}
use Rattle.epl_syntax.specs.Rules.First.{least}
use Rattle.epl_syntax.specs.Rules.InItems.{broken_local}
use Rattle.epl_check.proofs.item.check_locals.Given as goal

abbrev pub invariant-loop-v : goal.invariant-loop-v
invariant-loop-v l =
    least l.first (flat_map broken_local (map local_of (drop l.v-index l.locals)))
    ≡ least l.fn.first (flat_map broken_local (map local_of l.locals))
