use Rattle.std.proofs.Common.{◌≡◌, ◌+◌, length}
use Rattle.world_tests.proofs.eden_shell_others.odd_disks.Given as goal

-- as many as were made, and the blank one
abbrev pub invariant-loop : goal.invariant-loop
invariant-loop g l = length l.disks.items ≡ l.counter + 1
