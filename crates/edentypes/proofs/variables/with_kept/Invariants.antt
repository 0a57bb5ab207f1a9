use Rattle.std.proofs.Common.{◌≡◌, ◌++◌, drop, map}
use Rattle.eden_value.specs.View.{datums}
use Rattle.epl_syntax.specs.Outline.{with_kept}
use Rattle.edentypes.proofs.variables.with_kept.Given as goal

abbrev pub invariant-loop-var : goal.invariant-loop-var
invariant-loop-var g l =
    datums l.made.items ++ with_kept (map g.V.Variable.slot (drop l.var-index l.vars)) (datums l.rest)
    ≡ with_kept (map g.V.Variable.slot l.vars) (datums l.durable)
