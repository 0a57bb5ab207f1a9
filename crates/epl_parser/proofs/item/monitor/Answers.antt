use Rattle.std.proofs.Common.{arith}
use Rattle.epl_parser.specs.OneToken.{the_upper}
use Rattle.epl_parser.proofs.Behind.{one_less}
use Rattle.epl_parser.proofs.item.monitor.Goals as goal

pub next_number-number-requires : goal.next_number-number-requires
next_number-number-requires c =
    let less = one_less 0 (the_upper c.args.source.now.text.now) c.args.tokens.now _ _ c.in_ok-name.ensures in
    omega (arith, less, c.requires.few)
