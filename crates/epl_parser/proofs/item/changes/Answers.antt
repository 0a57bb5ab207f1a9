use Rattle.std.proofs.Common.{◌≡◌, map, ◌++◌, ◌-◌, [], ◌∷◌, sym, ap, ◌∙◌, subst, ◌<◌, length, arith}
use Rattle.std.proofs.lemmas.List.{map-append}
use Rattle.grammar.specs.Sequences.{look_row}
use Rattle.epl_syntax.specs.Tree.{change}
use Rattle.epl_syntax.specs.declared.token.Token.{Token}
use Rattle.epl_parser.specs.ItemReader.{lower_kind, read_change, read_changes}
use Rattle.epl_parser.proofs.RowLoops.{row_on}
use Rattle.epl_parser.proofs.Turns.{never_spent, no_row_left}
use Rattle.epl_parser.proofs.ItemReads.{changes_reads}
use Rattle.epl_parser.proofs.item.changes.Goals as goal

pub loop-left-preserved : goal.loop-left-preserved
loop-left-preserved c =
    let s = c.args.source.now in
    let read = read_change s.text.now s.turns in
    let had = map change c.loop-left.found.items in
    let whole = read_changes s.text.now s.turns c.args.tokens.now in
    let items : map change c.push.new.self.items ≡ had ++ change c.in_ok-next.next ∷ [] =
    ap (map change) c.in_ok-push.ensures.items ∙ map-append change c.loop-left.found.items (c.in_ok-next.next ∷ []) in
    subst (λ l. look_row (λ (t : Token). lower_kind t.kind) read (c.loop-left.left - 1) l c.in_ok-next.behind.now ≡ whole) (sym items)
    (row_on (λ (t : Token). lower_kind t.kind) read c.loop-left.left had c.loop-left.rest.now c.in-Some.field-0
    (change c.in_ok-next.next) c.in_ok-next.behind.now whole c.loop-left-test.true
    (sym c.in-Some.ensures) c.in_ok-next.ensures c.loop-left.invariant)

pub unreachable-requires : goal.unreachable-requires
unreachable-requires c =
    let s = c.args.source.now in
    let few : length c.args.tokens.now < s.turns = omega (arith, s.enough) in
    let none : c.loop-left.left ≡ 0 = omega (arith, c.loop-left-test.false) in
    never_spent s.turns (changes_reads s.text.now s.turns) c.args.tokens.now few
    (no_row_left (λ (t : Token). lower_kind t.kind) (read_change s.text.now s.turns) c.loop-left.left _ _ _ none c.loop-left.invariant)
