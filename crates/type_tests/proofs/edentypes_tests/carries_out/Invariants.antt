use Rattle.edentypes.specs.Fitting.{FitsKind}
use Rattle.type_tests.proofs.edentypes_tests.carries_out.Given as goal

abbrev pub invariant-loop-i : goal.invariant-loop-i
invariant-loop-i g l = FitsKind l.kind l.vars.value
