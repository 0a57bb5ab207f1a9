use Rattle.std.proofs.Common.{◌≡◌, drop, map}
use Rattle.eden_value.specs.View.{datums}
use Rattle.epl_syntax.specs.Kinds.{have_shapes}
use Rattle.epl_syntax.specs.Outline.{kinds_kept}
use Rattle.edentypes.proofs.variables.fit_kept.Given as goal

abbrev pub invariant-loop-var : goal.invariant-loop-var
invariant-loop-var g l =
    have_shapes (datums l.rest) (kinds_kept (map g.V.Variable.slot (drop l.var-index l.vars)))
    ≡ have_shapes (datums l.values) (kinds_kept (map g.V.Variable.slot l.vars))
