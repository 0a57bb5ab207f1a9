use Rattle.std.proofs.Common.{◌≡◌, ◌∙◌, List, sym, ap, subst, rules, map, Some, None, ◌<◌, length, arith, max, suc}
use Rattle.grammar.specs.Depths.{Look, look_then, look_here, look_mapped}
use Rattle.grammar.specs.Separated.{look_next}
use Rattle.grammar.specs.Tells.{Tells, Halts}
use Rattle.grammar.specs.declared.halt.Halt.{Halt}
use Rattle.epl_syntax.specs.declared.token.Mark.TheVariants as mark
use Rattle.epl_syntax.specs.declared.token.Token.{Token}
use Rattle.epl_syntax.specs.Tree.{Expression, expression}
use Rattle.epl_parser.specs.OneToken.{peeked, the_mark, look_one}
use Rattle.epl_parser.specs.Heads.{comparison, operator_at}
use Rattle.epl_parser.specs.Expressions.{Parsed, joined}
use Rattle.epl_parser.specs.ExpressionReader.{parsed, inner, read_step, read_part, read_chain, read_index, read_indexed}
use Rattle.epl_syntax.proofs.TreeRows.{expressions_push}
use Rattle.epl_parser.proofs.ExpressionSteps.{compared_step, items_turn, items_over}
use Rattle.epl_parser.proofs.Loops.{steps_on, steps_halt}
use Rattle.epl_parser.proofs.Turns.{never_spent, none_left, none_left_before}
use Rattle.epl_parser.proofs.ExpressionReads.{level_reads, index_row_reads, part_row_reads}
use Rattle.epl_parser.proofs.expression_parser.+expression.Goals as goal

pub compared-returns-in_err-right-clause-read : goal.compared-returns-in_err-right-clause-read
compared-returns-in_err-right-clause-read t c =
    let some : peeked (λ (t : Token). comparison t.kind) c.in_ok-found.rest.now ≡ Some c.in-Some.field-0 = search rules in
    let s = compared_step c.args.source.now.text.now c.args.source.now.turns c.args.outer c.args.levels c.args.depth c.args.tokens.now
    c.in_ok-found.rest.now c.in_ok-operator.rest.now (parsed c.in_ok-found.found)
    c.in-Some.field-0 c.in_ok-operator.operator (search rules) some (search rules) in
    subst (λ (r : Look Token Parsed). Tells (λ x. (parsed x.0, x.1.now)) c.from_residual-in_err-right.result r) (sym s) (search rules)

pub compared-returns-clause-read : goal.compared-returns-clause-read
compared-returns-clause-read t c =
    let some : peeked (λ (t : Token). comparison t.kind) c.in_ok-found.rest.now ≡ Some c.in-Some.field-0 = search rules in
    let s = compared_step c.args.source.now.text.now c.args.source.now.turns c.args.outer c.args.levels c.args.depth c.args.tokens.now
    c.in_ok-found.rest.now c.in_ok-operator.rest.now (parsed c.in_ok-found.found)
    c.in-Some.field-0 c.in_ok-operator.operator (search rules) some (search rules) in
    let joining = s ∙ ap (λ r. look_then r (λ (y : Parsed). look_here (joined c.in_ok-operator.operator (parsed c.in_ok-found.found) y)))
    c.in_ok-right.ensures.read in
    subst (λ (r : Look Token Parsed). Tells (λ x. (parsed x.0, x.1.now)) c.join.result r) (sym joining) c.join.ensures.made

pub items-returns-in_err-rest : goal.items-returns-in_err-rest
items-returns-in_err-rest t c =
    let over : peeked (the_mark mark.Comma) c.loop-left.rest.now ≡ None = search rules in
    let s = items_over c.args.source.now.text.now c.args.source.now.turns c.args.outer c.args.mark
    (inner c.args.source.now.text.now c.args.source.now.turns c.args.outer c.args.levels).expr c.args.depth
    c.loop-left.left (map expression c.loop-left.found.items) c.loop-left.rest.now _ c.loop-left-test.true over c.loop-left.invariant in
    subst (λ (r : Look Token (List Expression)). Tells (λ x. (map expression x.0.items, x.1.now)) c.from_residual-in_err-rest.result r)
    (sym s) (search rules)

pub items-loop-left-preserved : goal.items-loop-left-preserved
items-loop-left-preserved t c =
    let some : peeked (the_mark mark.Comma) c.loop-left.rest.now ≡ Some c.in-Some.field-0 = search rules in
    items_turn c.args.source.now.text.now c.args.source.now.turns c.args.outer c.args.mark
    (inner c.args.source.now.text.now c.args.source.now.turns c.args.outer c.args.levels).expr c.args.depth
    c.loop-left.left (map expression c.loop-left.found.items) c.loop-left.rest.now c.in_ok-behind.behind.now c.in_ok-next.behind.now
    c.in-Some.field-0 c.in_ok-behind.field-0-0 (parsed c.in_ok-next.next)
    (map expression c.push-in-loop-left.new.self.items) _ c.loop-left-test.true some (search rules) (search rules)
    (ap (map expression) c.in_ok-push-2.ensures.items ∙ expressions_push _ _) c.loop-left.invariant

pub chain-loop-left-preserved : goal.chain-loop-left-preserved
chain-loop-left-preserved t c =
    let s = c.args.source.now in
    let i = c.loop-left.invariant in
    record {
      read = steps_on (λ (t : Token). operator_at c.args.level t.kind)
          (read_step s.text.now s.turns c.args.outer c.args.level
          (read_part s.text.now s.turns c.args.outer c.args.level c.args.levels)) c.loop-left.left (parsed c.loop-left.found)
          c.loop-left.rest.now c.in-Some.field-0 (parsed c.in_ok-next.next) c.in_ok-next.behind.now
          (read_chain s.text.now s.turns c.args.outer c.args.level c.args.levels c.args.depth c.args.tokens.now) c.loop-left-test.true
          (sym c.in-Some.ensures) c.in_ok-next.ensures.read i.read;
      small = c.in_ok-next.ensures.small;
      great = omega (arith, i.great, c.in_ok-next.ensures.great);
    }

pub indexed-loop-left-preserved : goal.indexed-loop-left-preserved
indexed-loop-left-preserved t c =
    let s = c.args.source.now in
    let i = c.loop-left.invariant in
    record {
      read = steps_on (the_mark mark.OpenList)
          (read_index s.text.now s.turns c.args.outer (inner s.text.now s.turns c.args.outer c.args.levels).expr)
          c.loop-left.left (parsed c.loop-left.found) c.loop-left.rest.now c.in-Some.field-0 (parsed c.in_ok-next.next)
          c.in_ok-next.behind.now
          (read_indexed s.text.now s.turns c.args.outer c.args.levels c.args.depth c.args.tokens.now) c.loop-left-test.true
          (sym c.in-Some.ensures) c.in_ok-next.ensures.read i.read;
      small = c.in_ok-next.ensures.small;
      great = omega (arith, i.great, c.in_ok-next.ensures.great);
    }

pub chain-returns-in_err-next-clause-read : goal.chain-returns-in_err-next-clause-read
chain-returns-in_err-next-clause-read t c =
    let s = c.args.source.now in
    let whole = read_chain s.text.now s.turns c.args.outer c.args.level c.args.levels c.args.depth c.args.tokens.now in
    let halt : Halt = c.in_err-next.field-0.0 in
    let stops : Halts halt whole =
    steps_halt (λ (t : Token). operator_at c.args.level t.kind)
    (read_step s.text.now s.turns c.args.outer c.args.level
    (read_part s.text.now s.turns c.args.outer c.args.level c.args.levels)) c.loop-left.left (parsed c.loop-left.found)
    c.loop-left.rest.now c.in-Some.field-0 halt whole c.loop-left-test.true (sym c.in-Some.ensures) c.in_err-next.ensures.read
    c.loop-left.invariant.read in
    search (rules, stops)

pub indexed-returns-in_err-next-clause-read : goal.indexed-returns-in_err-next-clause-read
indexed-returns-in_err-next-clause-read t c =
    let s = c.args.source.now in
    let whole = read_indexed s.text.now s.turns c.args.outer c.args.levels c.args.depth c.args.tokens.now in
    let halt : Halt = c.in_err-next.field-0.0 in
    let stops : Halts halt whole =
    steps_halt (the_mark mark.OpenList)
    (read_index s.text.now s.turns c.args.outer (inner s.text.now s.turns c.args.outer c.args.levels).expr)
    c.loop-left.left (parsed c.loop-left.found) c.loop-left.rest.now c.in-Some.field-0 halt whole c.loop-left-test.true
    (sym c.in-Some.ensures) c.in_err-next.ensures.read c.loop-left.invariant.read in
    search (rules, stops)

pub chain-unreachable-requires : goal.chain-unreachable-requires
chain-unreachable-requires t c =
    let s = c.args.source.now in
    let few : length c.args.tokens.now < s.turns = omega (arith, s.enough) in
    let none : c.loop-left.left ≡ 0 = omega (arith, c.loop-left-test.false) in
    never_spent s.turns
    (level_reads s.text.now s.turns c.args.outer c.args.level c.args.levels c.args.depth (omega arith))
    c.args.tokens.now few
    (none_left (λ (t : Token). operator_at c.args.level t.kind)
    (read_step s.text.now s.turns c.args.outer c.args.level
    (read_part s.text.now s.turns c.args.outer c.args.level c.args.levels))
    c.loop-left.left _ _ _ none c.loop-left.invariant.read)

pub indexed-unreachable-requires : goal.indexed-unreachable-requires
indexed-unreachable-requires t c =
    let s = c.args.source.now in
    let few : length c.args.tokens.now < s.turns = omega (arith, s.enough) in
    let none : c.loop-left.left ≡ 0 = omega (arith, c.loop-left-test.false) in
    never_spent s.turns
    (index_row_reads s.text.now s.turns c.args.outer c.args.levels c.args.depth (omega arith))
    c.args.tokens.now few
    (none_left (the_mark mark.OpenList)
    (read_index s.text.now s.turns c.args.outer
    (inner s.text.now s.turns c.args.outer c.args.levels).expr)
    c.loop-left.left _ _ _ none c.loop-left.invariant.read)

pub items-unreachable-requires : goal.items-unreachable-requires
items-unreachable-requires t c =
    let s = c.args.source.now in
    let few : length c.args.tokens.now < s.turns = omega (arith, s.enough) in
    let none : c.loop-left.left ≡ 0 = omega (arith, c.loop-left-test.false) in
    never_spent s.turns
    (part_row_reads s.text.now s.turns c.args.outer c.args.mark
    c.requires.closing c.args.levels c.args.depth (omega arith) (omega arith))
    c.args.tokens.now few
    (none_left_before (the_mark mark.Comma)
    (look_next 32 (max c.args.outer c.args.depth) (the_mark mark.Comma)
    (look_mapped (λ (x : Parsed). x.tree) ((inner s.text.now s.turns c.args.outer c.args.levels).expr (suc c.args.depth))))
    (λ es. look_mapped (λ u. es) (look_one (max c.args.outer c.args.depth) (the_mark c.args.mark)))
    c.loop-left.left _ _ _ none c.loop-left.invariant)
