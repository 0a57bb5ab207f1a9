use Rattle.std.proofs.Common.{◌≡◌, ◌+◌, ◌^◌, ◌<◌, length}
use Rattle.grammar.specs.Depths.{look_many}
use Rattle.epl_syntax.specs.declared.token.Token.{Token}
use Rattle.epl_syntax.specs.Tree.{type_tree}
use Rattle.epl_parser.specs.Items.{item_head}
use Rattle.epl_parser.specs.ItemReader.{read_item, read_items}
use Rattle.epl_parser.proofs.item.items.Given as goal

abbrev pub invariant-loop-left : goal.invariant-loop-left
invariant-loop-left l = record {
  read : look_many (λ (t : Token). item_head t.kind) (read_item l.source.text.now l.source.turns) l.left (type_tree l.found) l.rest
      ≡ read_items l.source.text.now l.source.turns (type_tree l.fn.program) l.tokens;
  few : length l.found.monitors.items + length l.rest < 2 ^ 32;
}

abbrev pub decreases-loop-left : goal.decreases-loop-left
decreases-loop-left l = l.left
