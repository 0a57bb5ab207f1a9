use Rattle.std.proofs.Common.{◌≡◌, drop, take}
use Rattle.epl_syntax.specs.Tree.{expressions}
use Rattle.epl_syntax.specs.Rules.First.{least}
use Rattle.epl_syntax.specs.Rules.KindsOf.{kind_of_first, argument_tests}
use Rattle.epl_syntax.specs.Rules.InExpressions.{broken_items, broken_arguments}
use Rattle.epl_check.specs.View.{seen, found}
use Rattle.epl_check.proofs.expression.+expression.Given as goal

abbrev pub invariant-check_items-loop-i : goal.invariant-check_items-loop-i
invariant-check_items-loop-i l = record {
  kind : found l.of_first ≡ kind_of_first (seen l.scope) (expressions (take l.i l.items));
  told : least l.first (broken_items (seen l.scope) l.held (kind_of_first (seen l.scope) (expressions l.items))
      (expressions (drop l.i l.items)))
      ≡ least l.fn.first (broken_items (seen l.scope) l.held (kind_of_first (seen l.scope) (expressions l.items)) (expressions l.items));
}

abbrev pub invariant-check_arguments-loop-i : goal.invariant-check_arguments-loop-i
invariant-check_arguments-loop-i l = record {
  kind : found l.of_first ≡ kind_of_first (seen l.scope) (expressions (take l.i l.args));
  told : least l.first (broken_arguments (seen l.scope) l.held
      (drop l.i (argument_tests l.builtin (kind_of_first (seen l.scope) (expressions l.args)))) (expressions (drop l.i l.args)))
      ≡ least l.fn.first (broken_arguments (seen l.scope) l.held
      (argument_tests l.builtin (kind_of_first (seen l.scope) (expressions l.args))) (expressions l.args));
}
