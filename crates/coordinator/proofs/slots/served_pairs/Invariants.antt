use Rattle.std.proofs.Common.{◌≡◌, ◌≤◌, length, take}
use Rattle.std.specs.Prelude.{filter_map}
use Rattle.coordinator.specs.Fields.{slot_pair}
use Rattle.coordinator.proofs.slots.served_pairs.Given as goal

abbrev pub invariant-loop-i : goal.invariant-loop-i
invariant-loop-i l = record {
  pairs : l.pairs.items ≡ filter_map slot_pair (take l.i l.slots.items);
  few : length l.pairs.items ≤ l.i;
}
