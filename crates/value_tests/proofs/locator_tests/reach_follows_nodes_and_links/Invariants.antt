use Rattle.std.proofs.Common.{◌≡◌}
use Rattle.value_tests.proofs.locator_tests.reach_follows_nodes_and_links.Given as goal

abbrev pub invariant-loop-place : goal.invariant-loop-place
invariant-loop-place g l = l.places.nodes ≡ 2
