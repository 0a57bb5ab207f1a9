use Rattle.std.proofs.Common.{◌≡◌, List, rules, map, ◌++◌, ◌-◌, [], ◌∷◌, sym, ap, ◌∙◌, subst, ◌<◌, length, arith}
use Rattle.std.proofs.lemmas.List.{map-append}
use Rattle.grammar.specs.Sequences.{look_row}
use Rattle.grammar.specs.Depths.{Look}
use Rattle.grammar.specs.Tells.{Tells}
use Rattle.epl_syntax.specs.declared.token.Token.{Token}
use Rattle.epl_syntax.specs.Tree.{Statement, statement}
use Rattle.epl_parser.specs.OneToken.{headed}
use Rattle.epl_parser.specs.Statements.{statement_head}
use Rattle.epl_parser.specs.StatementReader.{read_statement, read_statements}
use Rattle.epl_parser.proofs.RowLoops.{row_on, row_turn}
use Rattle.epl_parser.proofs.Turns.{never_spent, no_row_left}
use Rattle.epl_parser.proofs.StatementReads.{statements_reads}
use Rattle.epl_parser.proofs.ExpressionReads.{expression_reads}
use Rattle.epl_parser.proofs.statement.+statement.Goals as goal

pub row-loop-left-preserved : goal.row-loop-left-preserved
row-loop-left-preserved t c =
    let s = c.args.source.now in
    let read = read_statement s.text.now s.turns c.args.levels c.args.depth in
    let had = map statement c.loop-left.found.items in
    let whole = read_statements s.text.now s.turns c.args.levels c.args.depth c.args.tokens.now in
    let items : map statement c.push.new.self.items ≡ had ++ statement c.in_ok-next.next ∷ [] =
    ap (map statement) c.in_ok-push.ensures.items ∙ map-append statement c.loop-left.found.items (c.in_ok-next.next ∷ []) in
    subst (λ l. look_row (headed statement_head) read (c.loop-left.left - 1) l c.in_ok-next.behind.now ≡ whole) (sym items)
    (row_on (headed statement_head) read c.loop-left.left had c.loop-left.rest.now c.in-Some.field-0
    (statement c.in_ok-next.next) c.in_ok-next.behind.now whole c.loop-left-test.true
    (sym c.in-Some.ensures) c.in_ok-next.ensures c.loop-left.invariant)

pub row-returns-in_err-next : goal.row-returns-in_err-next
row-returns-in_err-next t c =
    let s = c.args.source.now in
    let read = read_statement s.text.now s.turns c.args.levels c.args.depth in
    let had = map statement c.loop-left.found.items in
    let whole = read_statements s.text.now s.turns c.args.levels c.args.depth c.args.tokens.now in
    let turn =
    row_turn (headed statement_head) read c.loop-left.left had c.loop-left.rest.now c.in-Some.field-0 whole c.loop-left-test.true
    (sym c.in-Some.ensures) c.loop-left.invariant in
    subst (λ (r : Look Token (List Statement)). Tells (λ x. (map statement x.0.items, x.1.now)) c.from_residual.result r) (sym turn)
    (search rules)

pub row-unreachable-requires : goal.row-unreachable-requires
row-unreachable-requires t c =
    let s = c.args.source.now in
    let few : length c.args.tokens.now < s.turns = omega (arith, s.enough) in
    let none : c.loop-left.left ≡ 0 = omega (arith, c.loop-left-test.false) in
    never_spent s.turns
    (statements_reads s.text.now s.turns (expression_reads s.text.now s.turns) c.args.levels c.args.depth (omega arith))
    c.args.tokens.now few
    (no_row_left (headed statement_head) (read_statement s.text.now s.turns c.args.levels c.args.depth)
    c.loop-left.left _ _ _ none c.loop-left.invariant)

pub otherwise-returns-in_err-rest : goal.otherwise-returns-in_err-rest
otherwise-returns-in_err-rest c = search rules
