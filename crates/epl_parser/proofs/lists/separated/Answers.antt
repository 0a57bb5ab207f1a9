use Rattle.std.proofs.Common.{◌≡◌, None, rules, map, sym, arith}
use Rattle.grammar.specs.Separated.{look_next, look_separated}
use Rattle.grammar.specs.Tells.{Halts}
use Rattle.grammar.specs.declared.halt.Halt.{Halt}
use Rattle.epl_syntax.specs.declared.token.Mark.TheVariants as mark
use Rattle.epl_parser.specs.OneToken.{the_mark, peeked}
use Rattle.epl_parser.proofs.Loops.{steps_on, steps_halt, steps_over}
use Rattle.epl_parser.proofs.lists.separated.Goals as goal

pub loop-left-preserved : goal.loop-left-preserved
loop-left-preserved g c =
    let s = c.args.source.now in
    let d = c.args.depth in
    let tree = g.T.Part.tree in
    let read = g.T.Part.reader s.text.now s.turns d in
    record {
      read = steps_on (the_mark mark.Comma) (look_next 32 d (the_mark mark.Comma) read) c.loop-left.left
          (map tree c.loop-left.found.items) c.loop-left.rest.now c.in-Some.field-0 (map tree c.in_ok-more.more.items)
          c.in_ok-more.behind.now (look_separated 32 d (the_mark mark.Comma) s.turns read c.args.tokens.now) c.loop-left-test.true
          (sym c.in-Some.ensures) c.in_ok-more.ensures.tells c.loop-left.invariant.read;
      few = omega (arith, c.in_ok-more.ensures.behind, c.loop-left.invariant.few);
    }

pub returns-in_err-more : goal.returns-in_err-more
returns-in_err-more g c =
    let s = c.args.source.now in
    let d = c.args.depth in
    let tree = g.T.Part.tree in
    let read = g.T.Part.reader s.text.now s.turns d in
    let whole = look_separated 32 d (the_mark mark.Comma) s.turns read c.args.tokens.now in
    let halt : Halt = c.in_err-more.field-0.0 in
    let stops : Halts halt whole =
    steps_halt (the_mark mark.Comma) (look_next 32 d (the_mark mark.Comma) read) c.loop-left.left (map tree c.loop-left.found.items)
    c.loop-left.rest.now c.in-Some.field-0 halt whole c.loop-left-test.true (sym c.in-Some.ensures) c.in_err-more.ensures.tells
    c.loop-left.invariant.read in
    search (rules, stops)

pub returns-in_default : goal.returns-in_default
returns-in_default g c =
    let s = c.args.source.now in
    let d = c.args.depth in
    let read = g.T.Part.reader s.text.now s.turns d in
    let over : peeked (the_mark mark.Comma) c.loop-left.rest.now ≡ None = search rules in
    steps_over (the_mark mark.Comma) (look_next 32 d (the_mark mark.Comma) read) c.loop-left.left
    (map g.T.Part.tree c.loop-left.found.items) c.loop-left.rest.now _ c.loop-left-test.true over c.loop-left.invariant.read
