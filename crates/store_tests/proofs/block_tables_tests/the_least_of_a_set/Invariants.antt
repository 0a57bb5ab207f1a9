use Rattle.std.proofs.Common.{◌≡◌, length}
use Rattle.store_tests.proofs.block_tables_tests.the_least_of_a_set.Given as goal

abbrev pub invariant-loop-number : goal.invariant-loop-number
invariant-loop-number g l = length l.set.value ≡ 200
