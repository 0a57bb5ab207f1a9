use Rattle.std.proofs.Common.{◌≡◌, ◌++◌, drop}
use Rattle.eden_value.specs.View.{datums}
use Rattle.eden_codec.specs.Spelling.{values_spelling}
use Rattle.eden_value.specs.Range.{AllInRange}
use Rattle.eden_codec.proofs.encode.+encode.Given as goal

abbrev pub invariant-add_values-loop-value : goal.invariant-add_values-loop-value
invariant-add_values-loop-value l = record {
  spelled : l.out.items ++ values_spelling (datums (drop l.value-index l.values)) ≡ l.fn.out.items ++ values_spelling (datums l.values);
  range : AllInRange (datums (drop l.value-index l.values)) → AllInRange (datums l.values);
}
