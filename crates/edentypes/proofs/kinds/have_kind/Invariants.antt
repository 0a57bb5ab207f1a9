use Rattle.std.proofs.Common.{◌≡◌, drop}
use Rattle.eden_value.specs.View.{datums}
use Rattle.eden_value.specs.Shape.{shape, have_shape}
use Rattle.edentypes.proofs.kinds.have_kind.Given as goal

abbrev pub invariant-loop-value : goal.invariant-loop-value
invariant-loop-value l = have_shape (datums (drop l.value-index l.values)) (shape l.kind) ≡ have_shape (datums l.values) (shape l.kind)
