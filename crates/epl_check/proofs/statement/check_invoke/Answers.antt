use Rattle.std.proofs.Common.{rules}
use Rattle.epl_syntax.specs.Tree.{expression}
use Rattle.epl_syntax.specs.Rules.InExpressions.{broken_expression}
use Rattle.epl_check.specs.View.{seen}
use Rattle.epl_check.proofs.Least.{least_append}
use Rattle.epl_check.proofs.Rows.{flat_map_map}
use Rattle.epl_check.proofs.statement.check_invoke.Goals as goal

pub returns : goal.returns
returns c =
    let e = flat_map_map (broken_expression (seen c.args.scope.now) c.args.held) expression c.args.args.now in
    search (rules, least_append, e)
