use Rattle.std.proofs.Common.{◌≡◌, ◌-◌, map}
use Rattle.eden_model.specs.Crew.{least_number, free_from}
use Rattle.coordinator.specs.View.{process_of}
use Rattle.coordinator.proofs.slots.least_free.Given as goal

abbrev pub invariant-loop-number : goal.invariant-loop-number
invariant-loop-number l = least_number (map process_of l.slots) ≡ free_from (17 - l.number) l.number (map process_of l.slots)
