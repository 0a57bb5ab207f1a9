use Rattle.std.proofs.Common.{◌≡◌, ◌<◌, length, map}
use Rattle.grammar.specs.Depths.{look_many}
use Rattle.grammar.specs.Separated.{look_next, look_separated}
use Rattle.epl_syntax.specs.declared.token.Mark.TheVariants as mark
use Rattle.epl_parser.specs.OneToken.{the_mark}
use Rattle.epl_parser.proofs.lists.separated.Given as goal

abbrev pub invariant-loop-left : goal.invariant-loop-left
invariant-loop-left g l = record {
  read : look_many (the_mark mark.Comma)
      (look_next 32 l.depth (the_mark mark.Comma) (g.T.Part.reader l.source.text.now l.source.turns l.depth))
      l.left (map g.T.Part.tree l.found.items) l.rest
      ≡ look_separated 32 l.depth (the_mark mark.Comma) l.source.turns
      (g.T.Part.reader l.source.text.now l.source.turns l.depth) l.tokens;
  few : length l.rest < l.left;
}

abbrev pub decreases-loop-left : goal.decreases-loop-left
decreases-loop-left g l = l.left
