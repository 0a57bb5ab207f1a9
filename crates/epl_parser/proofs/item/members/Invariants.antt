use Rattle.std.proofs.Common.{◌≡◌}
use Rattle.grammar.specs.Depths.{look_many}
use Rattle.epl_syntax.specs.declared.token.Token.{Token}
use Rattle.epl_syntax.specs.Tree.{type_tree}
use Rattle.epl_parser.specs.Items.{member_head}
use Rattle.epl_parser.specs.ItemReader.{read_member, read_members}
use Rattle.epl_parser.proofs.item.members.Given as goal

abbrev pub invariant-loop-left : goal.invariant-loop-left
invariant-loop-left l =
    look_many (λ (t : Token). member_head t.kind) (read_member l.source.text.now l.source.turns l.monitor) l.left (type_tree l.found) l.rest
    ≡ read_members l.source.text.now l.source.turns l.monitor (type_tree l.fn.program) l.tokens

abbrev pub decreases-loop-left : goal.decreases-loop-left
decreases-loop-left l = l.left
