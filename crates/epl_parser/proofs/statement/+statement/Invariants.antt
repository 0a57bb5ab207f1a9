use Rattle.std.proofs.Common.{◌≡◌, ◌+◌, ◌*◌, map}
use Rattle.grammar.specs.Sequences.{look_row}
use Rattle.epl_syntax.specs.Tree.{statement}
use Rattle.epl_parser.specs.OneToken.{headed}
use Rattle.epl_parser.specs.Statements.{statement_head}
use Rattle.epl_parser.specs.StatementReader.{read_statement, read_statements}
use Rattle.epl_parser.proofs.statement.+statement.Given as goal

abbrev pub decreases-block : goal.decreases-block
decreases-block l = 8 * l.levels

abbrev pub decreases-ended_block : goal.decreases-ended_block
decreases-ended_block l = 8 * l.levels + 1

abbrev pub decreases-otherwise : goal.decreases-otherwise
decreases-otherwise l = 8 * l.levels + 1

abbrev pub decreases-branches : goal.decreases-branches
decreases-branches l = 8 * l.levels + 2

abbrev pub decreases-if_rest : goal.decreases-if_rest
decreases-if_rest l = 8 * l.levels + 3

abbrev pub decreases-while_rest : goal.decreases-while_rest
decreases-while_rest l = 8 * l.levels + 3

abbrev pub decreases-with_rest : goal.decreases-with_rest
decreases-with_rest l = 8 * l.levels + 3

abbrev pub decreases-statement : goal.decreases-statement
decreases-statement l = 8 * l.levels + 4

abbrev pub decreases-row : goal.decreases-row
decreases-row l = 8 * l.levels + 5

abbrev pub invariant-row-loop-left : goal.invariant-row-loop-left
invariant-row-loop-left l =
    look_row (headed statement_head) (read_statement l.source.text.now l.source.turns l.levels l.depth) l.left
    (map statement l.found.items) l.rest ≡ read_statements l.source.text.now l.source.turns l.levels l.depth l.tokens

abbrev pub decreases-row-loop-left : goal.decreases-row-loop-left
decreases-row-loop-left l = l.left
