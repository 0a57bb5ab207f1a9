use Rattle.std.proofs.Common.{◌+◌, ◌≤◌, drop}
use Rattle.runs.specs.Room.{entries_in}
use Rattle.world_tests.proofs.script_steps.have_numbers.Given as goal

-- what is left is enough for those that were looked at
abbrev pub invariant-loop-command : goal.invariant-loop-command
invariant-loop-command g l = entries_in l.commands + l.left ≤ 1000000 + entries_in (drop l.command-index l.commands)
