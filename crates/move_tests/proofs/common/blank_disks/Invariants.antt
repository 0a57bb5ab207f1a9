use Rattle.std.proofs.Common.{◌≡◌, length}
use Rattle.move_tests.proofs.common.blank_disks.Given as goal

abbrev pub invariant-loop : goal.invariant-loop
invariant-loop g l = length l.disks.items ≡ l.counter
