use Rattle.std.proofs.Common.{sym, ◌≡◌, ◌<◌, length, arith}
use Rattle.epl_syntax.specs.declared.token.Token.{Token}
use Rattle.epl_syntax.specs.Tree.{type_tree}
use Rattle.epl_parser.specs.Items.{member_head}
use Rattle.epl_parser.specs.ItemReader.{read_member, read_members}
use Rattle.epl_parser.proofs.Loops.{steps_on}
use Rattle.epl_parser.proofs.Turns.{never_spent, none_left}
use Rattle.epl_parser.proofs.ItemReads.{members_reads}
use Rattle.epl_parser.proofs.item.members.Goals as goal

pub loop-left-preserved : goal.loop-left-preserved
loop-left-preserved c =
    let s = c.args.source.now in
    steps_on (λ (t : Token). member_head t.kind) (read_member s.text.now s.turns c.args.monitor) c.loop-left.left
    (type_tree c.loop-left.found) c.loop-left.rest.now c.in-Some.field-0 (type_tree c.in_ok-next.next) c.in_ok-next.behind.now
    (read_members s.text.now s.turns c.args.monitor (type_tree c.args.program) c.args.tokens.now) c.loop-left-test.true
    (sym c.in-Some.ensures) c.in_ok-next.ensures c.loop-left.invariant

pub unreachable-requires : goal.unreachable-requires
unreachable-requires c =
    let s = c.args.source.now in
    let few : length c.args.tokens.now < s.turns = omega (arith, s.enough) in
    let none : c.loop-left.left ≡ 0 = omega (arith, c.loop-left-test.false) in
    never_spent s.turns
    (members_reads s.text.now s.turns c.args.monitor (type_tree c.args.program))
    c.args.tokens.now few
    (none_left (λ (t : Token). member_head t.kind) (read_member s.text.now s.turns c.args.monitor)
    c.loop-left.left _ _ _ none c.loop-left.invariant)
