use Rattle.std.proofs.Common.{◌≡◌, drop, map}
use Rattle.eden_value.specs.View.{datums}
use Rattle.epl_syntax.specs.Kinds.{have_shapes}
use Rattle.edentypes.proofs.kinds.have_kinds.Given as goal

abbrev pub invariant-loop-kind : goal.invariant-loop-kind
invariant-loop-kind g l =
    have_shapes (datums l.rest) (map g.K.Kinded.kind (drop l.kind-index l.kinds))
    ≡ have_shapes (datums l.values) (map g.K.Kinded.kind l.kinds)
