use Rattle.std.proofs.Common.{◌≡◌, ◌<◌, length, ap, arith}
use Rattle.epl_syntax.specs.Tree.{TypeTree}
use Rattle.epl_syntax.specs.declared.word.Word.TheVariants as word
use Rattle.epl_parser.specs.OneToken.{the_word, the_upper}
use Rattle.epl_parser.proofs.Behind.{one_less, none_added}
use Rattle.epl_parser.proofs.ItemReads.{version_reads}
use Rattle.epl_parser.proofs.item.edentype.Goals as goal

pub items-requires : goal.items-requires
items-requires c =
    let s = c.args.source.now in
    let first = one_less 0 (the_word word.Edentype) c.args.tokens.now _ _ c.in_ok-rest.ensures.tells in
    let second = one_less 0 (the_upper s.text.now) c.in_ok-rest.rest.now _ _ c.in_ok-name.ensures in
    let fit : length c.in_ok-name.rest.now < s.turns = omega (arith, s.enough, c.requires.few, first, second) in
    let third = none_added s.turns (version_reads s.text.now s.turns) c.in_ok-name.rest.now _ _ fit c.in_ok-version.ensures in
    let none : length c.without_items-program.result.monitors.items ≡ 0 =
    ap (λ (e : TypeTree). length e.monitors) c.without_items-program.ensures in
    record { few = omega (arith, c.requires.few, first, second, third, none) }
