use Rattle.std.proofs.Common.{◌≡◌, drop}
use Rattle.epl_syntax.specs.Tree.{statements}
use Rattle.epl_syntax.specs.Rules.First.{least}
use Rattle.epl_syntax.specs.Rules.InStatements.{broken_block}
use Rattle.epl_check.specs.View.{seen}
use Rattle.epl_check.proofs.statement.+statement.Given as goal

abbrev pub invariant-check_block-loop-s : goal.invariant-check_block-loop-s
invariant-check_block-loop-s l = least l.first (broken_block (seen l.scope) l.held (statements (drop l.s-index l.statements)))
    ≡ least l.fn.first (broken_block (seen l.scope) l.held (statements l.statements))
