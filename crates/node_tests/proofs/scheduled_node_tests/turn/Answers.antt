use Rattle.std.proofs.Common.{rules}
use Rattle.node_tests.proofs.scheduled_node_tests.turn.Goals as goal

pub turn-requires-clause-has : goal.turn-requires-clause-has
turn-requires-clause-has g c = (c.has_turn.ensures c.args.types.now).0 (search rules)
