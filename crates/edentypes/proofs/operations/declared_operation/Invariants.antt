use Rattle.std.proofs.Common.{◌≡◌, drop}
use Rattle.std.specs.List.{find}
use Rattle.eden_model.specs.Map.{same_text}
use Rattle.edentypes.proofs.operations.declared_operation.Given as goal

abbrev pub invariant-loop-operation : goal.invariant-loop-operation
invariant-loop-operation l =
    find (λ o. same_text o.name.text l.name) (drop l.operation-index l.operations) ≡ find (λ o. same_text o.name.text l.name) l.operations
