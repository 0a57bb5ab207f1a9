use Rattle.std.proofs.Common.{◌≡◌, drop}
use Rattle.std.specs.List.{find}
use Rattle.coordinator.specs.Fields.{next_serving}
use Rattle.coordinator.proofs.slots.first_to_start.Given as goal

-- none stands before the place
abbrev pub invariant-loop-place : goal.invariant-loop-place
invariant-loop-place l = find (next_serving l.slots l.limits) (drop l.place l.queued) ≡ find (next_serving l.slots l.limits) l.queued
