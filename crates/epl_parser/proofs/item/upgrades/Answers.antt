use Rattle.std.proofs.Common.{◌≡◌, map, ◌++◌, ◌-◌, [], ◌∷◌, sym, ap, ◌∙◌, subst, ◌<◌, length, arith}
use Rattle.std.proofs.lemmas.List.{map-append}
use Rattle.grammar.specs.Sequences.{look_row}
use Rattle.epl_syntax.specs.Tree.{upgrade}
use Rattle.epl_syntax.specs.declared.word.Word.TheVariants as word
use Rattle.epl_parser.specs.OneToken.{the_word}
use Rattle.epl_parser.specs.ItemReader.{read_upgrade, read_upgrades}
use Rattle.epl_parser.proofs.RowLoops.{row_on}
use Rattle.epl_parser.proofs.Turns.{never_spent, no_row_left}
use Rattle.epl_parser.proofs.ItemReads.{upgrades_reads}
use Rattle.epl_parser.proofs.item.upgrades.Goals as goal

pub loop-left-preserved : goal.loop-left-preserved
loop-left-preserved c =
    let s = c.args.source.now in
    let read = read_upgrade s.text.now s.turns in
    let had = map upgrade c.loop-left.found.items in
    let whole = read_upgrades s.text.now s.turns c.args.tokens.now in
    let items : map upgrade c.push.new.self.items ≡ had ++ upgrade c.in_ok-next.next ∷ [] =
    ap (map upgrade) c.in_ok-push.ensures.items ∙ map-append upgrade c.loop-left.found.items (c.in_ok-next.next ∷ []) in
    subst (λ l. look_row (the_word word.Upgrade) read (c.loop-left.left - 1) l c.in_ok-next.behind.now ≡ whole) (sym items)
    (row_on (the_word word.Upgrade) read c.loop-left.left had c.loop-left.rest.now c.in-Some.field-0
    (upgrade c.in_ok-next.next) c.in_ok-next.behind.now whole c.loop-left-test.true
    (sym c.in-Some.ensures) c.in_ok-next.ensures c.loop-left.invariant)

pub unreachable-requires : goal.unreachable-requires
unreachable-requires c =
    let s = c.args.source.now in
    let few : length c.args.tokens.now < s.turns = omega (arith, s.enough) in
    let none : c.loop-left.left ≡ 0 = omega (arith, c.loop-left-test.false) in
    never_spent s.turns (upgrades_reads s.text.now s.turns) c.args.tokens.now few
    (no_row_left (the_word word.Upgrade) (read_upgrade s.text.now s.turns) c.loop-left.left _ _ _ none c.loop-left.invariant)
