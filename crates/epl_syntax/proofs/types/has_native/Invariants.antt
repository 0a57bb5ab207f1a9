use Rattle.std.proofs.Common.{◌≡◌, drop, map}
use Rattle.std.specs.List.{list_any}
use Rattle.eden_model.specs.Map.{same_text}
use Rattle.epl_syntax.specs.Natives.{native_name}
use Rattle.epl_syntax.proofs.types.has_native.Given as goal

abbrev pub invariant-loop-t : goal.invariant-loop-t
invariant-loop-t l = list_any (λ t. same_text t l.name) (map native_name (drop l.t-index l.types)) ≡ list_any (λ t. same_text t l.name)
    (map native_name l.types)
