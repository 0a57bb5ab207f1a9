use Rattle.eden_kernel.specs.Stands.{held, IsWhole}
use Rattle.node_tests.proofs.eden_kernel_acts.run.Given as goal

abbrev pub invariant-loop-act : goal.invariant-loop-act
invariant-loop-act g l = IsWhole (held g.St.Store.seen l.node)
