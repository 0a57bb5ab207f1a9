use Rattle.std.proofs.Common.{◌≡◌, ◌≤◌, map, length, take, []}
use Rattle.std.specs.Vec.{vec_capacity}
use Rattle.coordinator.specs.View.{condition_of}
use Rattle.coordinator.proofs.monitors.new_conditions.Given as goal

abbrev pub invariant-loop-monitor : goal.invariant-loop-monitor
invariant-loop-monitor l = record {
  conditions : map condition_of l.conditions.items ≡ map (λ m. record { monitor = m; waiters = [] }) (take l.monitor-index l.monitors);
  count : length l.conditions.items ≡ l.monitor-index;
  room : length l.monitors ≤ vec_capacity l.conditions;
}
