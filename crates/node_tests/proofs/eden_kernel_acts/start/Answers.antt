use Rattle.node_tests.proofs.eden_kernel_acts.start.Goals as goal

pub start-requires-clause-may : goal.start-requires-clause-may
start-requires-clause-may g c = (c.may_start.ensures c.args.types.now).0 c.if-not-may_start.false
