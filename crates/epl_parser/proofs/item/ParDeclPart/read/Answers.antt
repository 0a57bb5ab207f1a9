use Rattle.std.proofs.Common.{◌<◌, length, arith}
use Rattle.epl_syntax.specs.Tree.{parameter}
use Rattle.epl_parser.proofs.Behind.{behind_told}
use Rattle.epl_parser.proofs.ItemReads.{parameter_reads}
use Rattle.epl_parser.proofs.item.ParDeclPart.read.Goals as goal

pub returns-clause-behind : goal.returns-clause-behind
returns-clause-behind c =
    let s = c.args.source.now in
    let few : length c.args.tokens.now < s.turns = omega (arith, s.enough) in
    behind_told s.turns (λ x. (parameter x.0, x.1.now)) c.parameter.result c.args.tokens.now
    (parameter_reads s.text.now s.turns) few c.parameter.ensures
