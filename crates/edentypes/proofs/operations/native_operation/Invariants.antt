use Rattle.std.proofs.Common.{◌≡◌, drop, map}
use Rattle.std.specs.List.{find}
use Rattle.eden_model.specs.Map.{same_text}
use Rattle.edentypes.specs.Forms.{operation_of}
use Rattle.edentypes.proofs.operations.native_operation.Given as goal

abbrev pub invariant-loop-operation : goal.invariant-loop-operation
invariant-loop-operation l =
    find (λ o. same_text o.name l.name) (map operation_of (drop l.operation-index l.operations))
    ≡ find (λ o. same_text o.name l.name) (map operation_of l.operations)
