use Rattle.std.proofs.Common.{◌≡◌, ◌-◌, ◌*◌, ◌+◌}
use Rattle.eden_value.specs.View.{datums}
use Rattle.grammar.specs.Reading.{times}
use Rattle.eden_codec.specs.Reading.{value_at}
use Rattle.grammar.proofs.Loop.{with_front}
use Rattle.eden_codec.proofs.value.+value.Given as goal

abbrev pub decreases-value_of : goal.decreases-value_of
decreases-value_of l = 3 * l.depth

abbrev pub decreases-any_value : goal.decreases-any_value
decreases-any_value l = 3 * l.depth + 2

abbrev pub decreases-values_of : goal.decreases-values_of
decreases-values_of l = 3 * l.depth + 1

abbrev pub invariant-values_of-loop : goal.invariant-values_of-loop
invariant-values_of-loop l = with_front (datums l.values.items) (times (l.count - l.counter) (value_at l.depth) l.rest) ≡ times l.count
    (value_at l.depth) l.bytes
