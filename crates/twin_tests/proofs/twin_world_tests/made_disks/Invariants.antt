use Rattle.std.proofs.Common.{◌≡◌, length}
use Rattle.twin_tests.proofs.twin_world_tests.made_disks.Given as goal

abbrev pub invariant-loop : goal.invariant-loop
invariant-loop l = length l.disks.items ≡ l.counter
