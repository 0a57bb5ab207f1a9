use Rattle.std.proofs.Common.{◌≡◌, ◌+◌, drop, map}
use Rattle.std.specs.List.{position_from}
use Rattle.eden_model.specs.Map.{same_text}
use Rattle.epl_syntax.proofs.types.find_declared.Given as goal

abbrev pub invariant-loop-i : goal.invariant-loop-i
invariant-loop-i l =
    position_from (λ t. same_text t l.name) (l.first + l.i) (map (λ t. t.name.text) (map (λ c. c.program) (drop l.i l.types)))
    ≡ position_from (λ t. same_text t l.name) l.first (map (λ t. t.name.text) (map (λ c. c.program) l.types))
