use Rattle.std.proofs.Common.{◌≡◌, drop}
use Rattle.epl_syntax.specs.Tree.{type_tree, expressions}
use Rattle.epl_syntax.specs.Expressions.{values_of}
use Rattle.epl_values.specs.Variables.{memory}
use Rattle.epl_values.proofs.Applied.{row_behind}
use Rattle.epl_values.proofs.expression.+expression.Given as goal

abbrev pub invariant-values_of-loop-e : goal.invariant-values_of-loop-e
invariant-values_of-loop-e l = row_behind (memory (type_tree l.program) l.vars) l.values.items (drop l.e-index l.es)
    ≡ values_of (memory (type_tree l.program) l.vars) (expressions l.es)
