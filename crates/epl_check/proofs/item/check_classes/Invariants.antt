use Rattle.std.proofs.Common.{◌≡◌, drop}
use Rattle.std.specs.List.{flat_map}
use Rattle.epl_syntax.specs.Rules.First.{least}
use Rattle.epl_syntax.specs.Rules.InItems.{broken_class}
use Rattle.epl_check.proofs.item.check_classes.Given as goal

abbrev pub invariant-loop-c : goal.invariant-loop-c
invariant-loop-c l = least l.first (flat_map broken_class (drop l.c-index l.classes)) ≡ least l.fn.first (flat_map broken_class l.classes)
