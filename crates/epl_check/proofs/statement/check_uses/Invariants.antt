use Rattle.std.proofs.Common.{◌≡◌, drop}
use Rattle.epl_syntax.specs.Rules.First.{least}
use Rattle.epl_syntax.specs.Rules.InStatements.{broken_uses}
use Rattle.epl_check.specs.View.{seen}
use Rattle.epl_check.proofs.statement.check_uses.Given as goal

abbrev pub invariant-loop-name : goal.invariant-loop-name
invariant-loop-name l =
    least l.first (broken_uses (seen l.scope) l.held (drop l.name-index l.names))
    ≡ least l.fn.first (broken_uses (seen l.scope) l.held l.names)
