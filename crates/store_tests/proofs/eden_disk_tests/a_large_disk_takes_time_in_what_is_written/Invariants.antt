use Rattle.std.proofs.Common.{◌≡◌}
use Rattle.store_tests.proofs.eden_disk_tests.a_large_disk_takes_time_in_what_is_written.Given as goal

abbrev pub invariant-loop : goal.invariant-loop
invariant-loop g l = l.disk.value.counts.size ≡ 4194304
