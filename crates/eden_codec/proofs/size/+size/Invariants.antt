use Rattle.std.proofs.Common.{◌≡◌, ◌+◌, ◌≤◌, min, drop}
use Rattle.eden_value.specs.View.{datums}
use Rattle.eden_codec.specs.Spelling.{values_size}
use Rattle.eden_codec.proofs.Sizes.{most}
use Rattle.eden_codec.proofs.size.+size.Given as goal

abbrev pub invariant-row_size-loop-value : goal.invariant-row_size-loop-value
invariant-row_size-loop-value l = record {
  fits : l.total ≤ most;
  sum : min (l.total + values_size (datums (drop l.value-index l.values))) most ≡ min (values_size (datums l.values)) most;
}
