use Rattle.std.proofs.Common.{rules}
use Rattle.node_tests.proofs.ejects_tests.Bench.turn.Goals as goal

pub process-requires-clause-ready : goal.process-requires-clause-ready
process-requires-clause-ready g c = (c.is_ready.ensures c.args.self.now.types).0 (search rules)
