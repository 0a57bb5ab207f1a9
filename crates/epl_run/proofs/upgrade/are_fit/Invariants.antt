use Rattle.std.proofs.Common.{◌≡◌, drop, map}
use Rattle.eden_value.specs.Shape.{shape}
use Rattle.eden_value.specs.View.{datums}
use Rattle.epl_syntax.specs.Kinds.{have_shapes}
use Rattle.epl_run.proofs.upgrade.are_fit.Given as goal

abbrev pub invariant-loop-param : goal.invariant-loop-param
invariant-loop-param l =
    have_shapes (datums l.rest) (map (λ p. shape p.kind.kind) (drop l.param-index l.params))
    ≡ have_shapes (datums l.values) (map (λ p. shape p.kind.kind) l.params)
