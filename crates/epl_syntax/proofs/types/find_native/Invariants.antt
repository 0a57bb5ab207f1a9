use Rattle.std.proofs.Common.{◌≡◌, drop, map}
use Rattle.std.specs.List.{position_from}
use Rattle.eden_model.specs.Map.{same_text}
use Rattle.epl_syntax.specs.Natives.{native_name}
use Rattle.epl_syntax.proofs.types.find_native.Given as goal

abbrev pub invariant-loop-i : goal.invariant-loop-i
invariant-loop-i l =
    position_from (λ t. same_text t l.name) l.i (map native_name (drop l.i l.types))
    ≡ position_from (λ t. same_text t l.name) 0 (map native_name l.types)
