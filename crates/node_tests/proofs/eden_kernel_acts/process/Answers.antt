use Rattle.node_tests.proofs.eden_kernel_acts.process.Goals as goal

pub process-turn-requires-clause-may : goal.process-turn-requires-clause-may
process-turn-requires-clause-may g c = (c.may_process.ensures c.args.types.now).0 c.if-not-may_process.false
