use Rattle.std.proofs.Common.{◌≡◌, ◌++◌, drop}
use Rattle.eden_value.specs.View.{datums}
use Rattle.eden_value.specs.Caps.{caps_of}
use Rattle.eden_value.proofs.walk.+add_caps.Given as goal

abbrev pub invariant-add_all_caps-loop-value : goal.invariant-add_all_caps-loop-value
invariant-add_all_caps-loop-value l = l.found.items ++ caps_of (datums (drop l.value-index l.values)) ≡ l.fn.found.items ++ caps_of
    (datums l.values)
