use Rattle.std.proofs.Common.{◌<◌, length, arith}
use Rattle.epl_syntax.specs.Tree.{expression}
use Rattle.epl_parser.proofs.Behind.{behind_told}
use Rattle.epl_parser.proofs.ExpressionReads.{expression_reads}
use Rattle.epl_parser.proofs.parens.ExprPart.read.Goals as goal

pub returns-clause-behind : goal.returns-clause-behind
returns-clause-behind c =
    let s = c.args.source.now in
    let few : length c.args.tokens.now < s.turns = omega (arith, s.enough) in
    behind_told s.turns (λ x. (expression x.0, x.1.now)) c.expression.result c.args.tokens.now
    (expression_reads s.text.now s.turns c.args.depth) few c.expression.ensures
