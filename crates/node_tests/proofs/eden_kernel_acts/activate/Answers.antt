use Rattle.node_tests.proofs.eden_kernel_acts.activate.Goals as goal

pub activate-requires-clause-may : goal.activate-requires-clause-may
activate-requires-clause-may g c = (c.may_activate.ensures c.args.types.now).0 c.if-not-may_activate.false
