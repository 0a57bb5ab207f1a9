use Rattle.eden_kernel.specs.Stands.{held, IsWhole}
use Rattle.node_tests.proofs.scheduled_node_tests.check_rows.Given as goal

abbrev pub invariant-loop-place : goal.invariant-loop-place
invariant-loop-place g l = IsWhole (held g.St.Store.seen l.node.node)
