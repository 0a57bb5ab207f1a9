use Rattle.std.proofs.Common.{◌≡◌, ◌≤◌, drop, min, max}
use Rattle.eden_value.specs.View.{datums}
use Rattle.eden_value.specs.Limits.{depth_of}
use Rattle.eden_value.proofs.shared.depth_in.Given as goal

abbrev pub invariant-loop-value : goal.invariant-loop-value
invariant-loop-value l = (l.deepest ≤ 255)
    × (min (max l.deepest (depth_of (datums (drop l.value-index l.values)))) 255 ≡ min (depth_of (datums l.values)) 255)
