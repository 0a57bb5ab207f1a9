use Rattle.std.proofs.Common.{◌≡◌, map}
use Rattle.grammar.specs.Sequences.{look_row}
use Rattle.epl_syntax.specs.Tree.{change}
use Rattle.epl_syntax.specs.declared.token.Token.{Token}
use Rattle.epl_parser.specs.ItemReader.{lower_kind, read_change, read_changes}
use Rattle.epl_parser.proofs.item.changes.Given as goal

abbrev pub invariant-loop-left : goal.invariant-loop-left
invariant-loop-left l =
    look_row (λ (t : Token). lower_kind t.kind) (read_change l.source.text.now l.source.turns) l.left (map change l.found.items) l.rest
    ≡ read_changes l.source.text.now l.source.turns l.tokens

abbrev pub decreases-loop-left : goal.decreases-loop-left
decreases-loop-left l = l.left
