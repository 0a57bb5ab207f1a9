use Rattle.std.proofs.Common.{◌≡◌, ℕ, List, length}
use Rattle.eden_model.specs.Crew.{Condition, leave_held}
use Rattle.coordinator.specs.View.{crew_of}
use Rattle.coordinator.proofs.monitors.pass_on_all.Given as goal

abbrev pub invariant-loop-i : goal.invariant-loop-i
invariant-loop-i l = record {
  crew : (ls : List ℕ) (cs : List Condition)
      → crew_of ls cs l.slots.items l.monitors.items ≡ leave_held l.process l.i
      (crew_of ls cs l.initial.slots.items l.initial.monitors.items);
  slots : length l.slots.items ≡ length l.initial.slots.items;
  monitors : length l.monitors.items ≡ length l.initial.monitors.items;
}
