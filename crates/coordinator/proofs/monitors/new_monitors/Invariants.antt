use Rattle.std.proofs.Common.{◌≡◌, ◌≤◌, map, length, None, [], replicate}
use Rattle.std.specs.Vec.{vec_capacity}
use Rattle.coordinator.specs.View.{monitor_of}
use Rattle.coordinator.proofs.monitors.new_monitors.Given as goal

abbrev pub invariant-loop-i : goal.invariant-loop-i
invariant-loop-i l = record {
  monitors : map monitor_of l.monitors.items ≡ replicate l._i (record { holder = None; entering = [] });
  count : length l.monitors.items ≡ l._i;
  room : l.count ≤ vec_capacity l.monitors;
}
