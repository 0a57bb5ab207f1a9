use Rattle.std.proofs.Common.{◌<◌, length, arith}
use Rattle.epl_syntax.specs.Tree.{written}
use Rattle.epl_parser.proofs.Behind.{behind_told}
use Rattle.epl_parser.proofs.KindReader.{written_kind_reads}
use Rattle.epl_parser.proofs.item.WrittenKindPart.read.Goals as goal

pub returns-clause-behind : goal.returns-clause-behind
returns-clause-behind c =
    let s = c.args.source.now in
    let few : length c.args.tokens.now < s.turns = omega (arith, s.enough) in
    behind_told s.turns (λ x. (written x.0, x.1.now)) c.written_kind.result c.args.tokens.now
    (written_kind_reads c.args.depth s.turns) few c.written_kind.ensures
