use Rattle.std.proofs.Common.{◌≡◌, length}
use Rattle.store_tests.proofs.block_tables_tests.the_greatest_of_numbers_that_are_set.Given as goal

abbrev pub invariant-loop-place : goal.invariant-loop-place
invariant-loop-place g l = length l.peaks.value ≡ 70
