use Rattle.std.proofs.Common.{◌≡◌, ◌≤◌, ◌+◌, ◌*◌, map}
use Rattle.epl_syntax.specs.Tree.{expression}
use Rattle.epl_parser.specs.ExpressionReader.{parsed, inner, read_steps, read_indices, read_part, read_chain}
use Rattle.epl_parser.specs.ExpressionReader.{read_indexed, read_exprs_to, exprs_on}
use Rattle.epl_parser.proofs.Ranks.{chain_rank}
use Rattle.epl_parser.proofs.expression_parser.+expression.Given as goal

abbrev pub decreases-inside : goal.decreases-inside
decreases-inside l = 20 * l.levels

abbrev pub decreases-closed : goal.decreases-closed
decreases-closed l = 20 * l.levels + 1

abbrev pub decreases-items : goal.decreases-items
decreases-items l = 20 * l.levels + 1

abbrev pub decreases-index : goal.decreases-index
decreases-index l = 20 * l.levels + 2

abbrev pub decreases-grouped : goal.decreases-grouped
decreases-grouped l = 20 * l.levels + 2

abbrev pub decreases-list : goal.decreases-list
decreases-list l = 20 * l.levels + 2

abbrev pub decreases-applied : goal.decreases-applied
decreases-applied l = 20 * l.levels + 2

abbrev pub decreases-primary : goal.decreases-primary
decreases-primary l = 20 * l.levels + 3

abbrev pub decreases-indexed : goal.decreases-indexed
decreases-indexed l = 20 * l.levels + 4

abbrev pub decreases-unit : goal.decreases-unit
decreases-unit l = 20 * l.levels + 5

abbrev pub decreases-part : goal.decreases-part
decreases-part l = 20 * l.levels + chain_rank l.level

abbrev pub decreases-step : goal.decreases-step
decreases-step l = 20 * l.levels + chain_rank l.level + 1

abbrev pub decreases-chain : goal.decreases-chain
decreases-chain l = 20 * l.levels + chain_rank l.level + 2

abbrev pub decreases-compared : goal.decreases-compared
decreases-compared l = 20 * l.levels + 12

abbrev pub decreases-negation : goal.decreases-negation
decreases-negation l = 20 * l.levels + 13

abbrev pub invariant-chain-loop-left : goal.invariant-chain-loop-left
invariant-chain-loop-left l = record {
  read : read_steps l.source.text.now l.source.turns l.outer l.level
      (read_part l.source.text.now l.source.turns l.outer l.level l.levels) l.left (parsed l.found) l.rest
      ≡ read_chain l.source.text.now l.source.turns l.outer l.level l.levels l.depth l.tokens;
  small : l.found.behind ≤ 32;
  great : l.depth ≤ l.found.behind;
}

abbrev pub decreases-chain-loop-left : goal.decreases-chain-loop-left
decreases-chain-loop-left l = l.left

abbrev pub invariant-indexed-loop-left : goal.invariant-indexed-loop-left
invariant-indexed-loop-left l = record {
  read : read_indices l.source.text.now l.source.turns l.outer (inner l.source.text.now l.source.turns l.outer l.levels).expr l.left
      (parsed l.found) l.rest ≡ read_indexed l.source.text.now l.source.turns l.outer l.levels l.depth l.tokens;
  small : l.found.behind ≤ 32;
  great : l.depth ≤ l.found.behind;
}

abbrev pub decreases-indexed-loop-left : goal.decreases-indexed-loop-left
decreases-indexed-loop-left l = l.left

abbrev pub invariant-items-loop-left : goal.invariant-items-loop-left
invariant-items-loop-left l =
    exprs_on l.source.text.now l.source.turns l.outer l.mark (inner l.source.text.now l.source.turns l.outer l.levels).expr l.depth l.left
    (map expression l.found.items) l.rest
    ≡ read_exprs_to l.source.text.now l.source.turns l.outer l.mark
    (inner l.source.text.now l.source.turns l.outer l.levels).expr l.depth l.tokens

abbrev pub decreases-items-loop-left : goal.decreases-items-loop-left
decreases-items-loop-left l = l.left
