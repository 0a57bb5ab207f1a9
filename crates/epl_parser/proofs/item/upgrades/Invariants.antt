use Rattle.std.proofs.Common.{◌≡◌, map}
use Rattle.grammar.specs.Sequences.{look_row}
use Rattle.epl_syntax.specs.Tree.{upgrade}
use Rattle.epl_syntax.specs.declared.word.Word.TheVariants as word
use Rattle.epl_parser.specs.OneToken.{the_word}
use Rattle.epl_parser.specs.ItemReader.{read_upgrade, read_upgrades}
use Rattle.epl_parser.proofs.item.upgrades.Given as goal

abbrev pub invariant-loop-left : goal.invariant-loop-left
invariant-loop-left l =
    look_row (the_word word.Upgrade) (read_upgrade l.source.text.now l.source.turns) l.left (map upgrade l.found.items) l.rest
    ≡ read_upgrades l.source.text.now l.source.turns l.tokens

abbrev pub decreases-loop-left : goal.decreases-loop-left
decreases-loop-left l = l.left
