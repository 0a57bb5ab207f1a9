use Rattle.std.proofs.Common.{rules}
use Rattle.node_tests.proofs.ejects_tests.Bench.start.Goals as goal

pub start-started-requires : goal.start-started-requires
start-started-requires g c = (c.may_begin.ensures c.args.self.now.types).0 (search rules)
