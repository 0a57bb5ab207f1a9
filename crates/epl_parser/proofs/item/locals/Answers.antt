use Rattle.std.proofs.Common.{◌≡◌, map, ◌++◌, ◌-◌, [], ◌∷◌, sym, ap, ◌∙◌, subst, ◌<◌, length, arith}
use Rattle.std.proofs.lemmas.List.{map-append}
use Rattle.grammar.specs.Sequences.{look_row}
use Rattle.epl_syntax.specs.Tree.{local_of}
use Rattle.epl_syntax.specs.declared.word.Word.TheVariants as word
use Rattle.epl_parser.specs.OneToken.{the_word}
use Rattle.epl_parser.specs.ItemReader.{read_local, read_locals}
use Rattle.epl_parser.proofs.RowLoops.{row_on}
use Rattle.epl_parser.proofs.Turns.{never_spent, no_row_left}
use Rattle.epl_parser.proofs.ItemReads.{locals_reads}
use Rattle.epl_parser.proofs.item.locals.Goals as goal

pub loop-left-preserved : goal.loop-left-preserved
loop-left-preserved c =
    let s = c.args.source.now in
    let read = read_local s.text.now s.turns in
    let had = map local_of c.loop-left.found.items in
    let whole = read_locals s.text.now s.turns c.args.tokens.now in
    let items : map local_of c.push.new.self.items ≡ had ++ local_of c.in_ok-next.next ∷ [] =
    ap (map local_of) c.in_ok-push.ensures.items ∙ map-append local_of c.loop-left.found.items (c.in_ok-next.next ∷ []) in
    subst (λ l. look_row (the_word word.Var) read (c.loop-left.left - 1) l c.in_ok-next.behind.now ≡ whole) (sym items)
    (row_on (the_word word.Var) read c.loop-left.left had c.loop-left.rest.now c.in-Some.field-0
    (local_of c.in_ok-next.next) c.in_ok-next.behind.now whole c.loop-left-test.true
    (sym c.in-Some.ensures) c.in_ok-next.ensures c.loop-left.invariant)

pub unreachable-requires : goal.unreachable-requires
unreachable-requires c =
    let s = c.args.source.now in
    let few : length c.args.tokens.now < s.turns = omega (arith, s.enough) in
    let none : c.loop-left.left ≡ 0 = omega (arith, c.loop-left-test.false) in
    never_spent s.turns (locals_reads s.text.now s.turns) c.args.tokens.now few
    (no_row_left (the_word word.Var) (read_local s.text.now s.turns) c.loop-left.left _ _ _ none c.loop-left.invariant)
