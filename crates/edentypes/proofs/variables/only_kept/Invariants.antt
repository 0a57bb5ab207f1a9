use Rattle.std.proofs.Common.{◌≡◌, ◌++◌, drop, map}
use Rattle.eden_value.specs.View.{datums}
use Rattle.epl_syntax.specs.Outline.{only_kept}
use Rattle.edentypes.proofs.variables.only_kept.Given as goal

abbrev pub invariant-loop-var : goal.invariant-loop-var
invariant-loop-var g l =
    datums l.made.items ++ only_kept (map g.V.Variable.slot (drop l.var-index l.vars)) (datums l.rest)
    ≡ only_kept (map g.V.Variable.slot l.vars) (datums l.values)
