use Rattle.std.proofs.Common.{sym, ◌≡◌, ◌<◌, length, arith}
use Rattle.epl_syntax.specs.declared.token.Token.{Token}
use Rattle.epl_syntax.specs.Tree.{type_tree}
use Rattle.epl_parser.specs.Items.{item_head}
use Rattle.epl_parser.specs.ItemReader.{read_item, read_items}
use Rattle.epl_parser.proofs.Loops.{steps_on}
use Rattle.epl_parser.proofs.Turns.{never_spent, none_left}
use Rattle.epl_parser.proofs.ItemReads.{items_reads}
use Rattle.epl_parser.proofs.FewMonitors.{item_few}
use Rattle.epl_parser.proofs.item.items.Goals as goal

pub loop-left-preserved : goal.loop-left-preserved
loop-left-preserved c =
    let s = c.args.source.now in
    let i = c.loop-left.invariant in
    let fit : length c.loop-left.rest.now < s.turns = omega (arith, s.enough, i.few) in
    record {
      read = steps_on (λ (t : Token). item_head t.kind) (read_item s.text.now s.turns) c.loop-left.left (type_tree c.loop-left.found)
          c.loop-left.rest.now c.in-Some.field-0 (type_tree c.in_ok-next.next) c.in_ok-next.behind.now
          (read_items s.text.now s.turns (type_tree c.args.program) c.args.tokens.now) c.loop-left-test.true (sym c.in-Some.ensures)
          c.in_ok-next.ensures i.read;
      few = omega (
        arith,
        i.few,
        item_few s.text.now s.turns (type_tree c.loop-left.found) (type_tree c.in_ok-next.next)
            c.loop-left.rest.now c.in_ok-next.behind.now fit c.in_ok-next.ensures,
      );
    }

pub unreachable-requires : goal.unreachable-requires
unreachable-requires c =
    let s = c.args.source.now in
    let few : length c.args.tokens.now < s.turns = omega (arith, s.enough) in
    let none : c.loop-left.left ≡ 0 = omega (arith, c.loop-left-test.false) in
    never_spent s.turns (items_reads s.text.now s.turns (type_tree c.args.program)) c.args.tokens.now few
    (none_left (λ (t : Token). item_head t.kind) (read_item s.text.now s.turns) c.loop-left.left _ _ _ none c.loop-left.invariant.read)
