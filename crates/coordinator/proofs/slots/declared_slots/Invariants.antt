use Rattle.std.proofs.Common.{◌≡◌, ◌≤◌, ◌+◌, ◌-◌, ◌++◌, map, length}
use Rattle.std.specs.Vec.{vec_capacity}
use Rattle.eden_model.specs.Crew.{declared_from}
use Rattle.coordinator.specs.View.{process_of}
use Rattle.coordinator.proofs.slots.declared_slots.Given as goal

abbrev pub invariant-loop-number : goal.invariant-loop-number
invariant-loop-number l = record {
  slots : map process_of l.slots.items ++ declared_from (l.number + 1) (l.declared - l.number) ≡ declared_from 1 l.declared;
  count : length l.slots.items ≡ l.number;
  room : l.declared ≤ vec_capacity l.slots;
}
