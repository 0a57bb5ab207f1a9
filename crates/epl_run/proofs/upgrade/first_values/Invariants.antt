use Rattle.std.proofs.Common.{◌≡◌, map, take}
use Rattle.eden_value.specs.View.{datums}
use Rattle.epl_syntax.specs.Memory.{value_of_constant}
use Rattle.epl_syntax.specs.Tree.{variable}
use Rattle.epl_run.proofs.upgrade.first_values.Given as goal

abbrev pub invariant-loop-var : goal.invariant-loop-var
invariant-loop-var l =
    datums l.values.items ≡ map (λ x. value_of_constant x.start.value) (map variable (take l.var-index l.program.vars.items))
