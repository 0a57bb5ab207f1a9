use Rattle.std.proofs.Common.{◌≡◌, map, ◌++◌, [], ◌∷◌, ap, ◌∙◌, sym, arith}
use Rattle.std.proofs.lemmas.List.{map-append}
use Rattle.grammar.specs.Depths.{look_then, look_mapped, look_here}
use Rattle.epl_syntax.specs.declared.token.Mark.TheVariants as mark
use Rattle.epl_parser.specs.OneToken.{the_mark}
use Rattle.epl_parser.proofs.Behind.{one_less}
use Rattle.epl_parser.proofs.lists.one_more.Goals as goal

pub returns-clause-tells : goal.returns-clause-tells
returns-clause-tells g c =
    let s = c.args.source.now in
    let tree = g.T.Part.tree in
    let read = g.T.Part.reader s.text.now s.turns c.args.depth in
    let had = map tree c.args.found.items in
    let items : map tree c.push.new.self.items ≡ had ++ tree c.in_ok-next.next ∷ [] =
    ap (map tree) c.in_ok-push.ensures.items ∙ map-append tree c.args.found.items (c.in_ok-next.next ∷ []) in
    ap (λ r. look_then r (λ k. look_mapped (λ a. had ++ a ∷ []) read)) c.in_ok-rest.ensures.tells
    ∙ ap (λ r. look_then r (λ a. look_here (had ++ a ∷ []))) c.in_ok-next.ensures.tells
    ∙ ap (λ l. look_here l c.in_ok-next.rest.now) (sym items)

pub returns-clause-behind : goal.returns-clause-behind
returns-clause-behind g c =
    let less = one_less c.args.depth (the_mark mark.Comma) c.args.tokens.now _ _ c.in_ok-rest.ensures.tells in
    omega (arith, less, c.in_ok-next.ensures.behind)
