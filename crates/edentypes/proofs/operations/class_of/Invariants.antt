use Rattle.std.proofs.Common.{◌≡◌, drop}
use Rattle.std.specs.List.{position_from}
use Rattle.eden_model.specs.Map.{same_text}
use Rattle.edentypes.proofs.operations.class_of.Given as goal

abbrev pub invariant-loop-i : goal.invariant-loop-i
invariant-loop-i l =
    position_from (λ c. same_text c.name.text l.name) l.i (drop l.i l.classes)
    ≡ position_from (λ c. same_text c.name.text l.name) 0 l.classes
