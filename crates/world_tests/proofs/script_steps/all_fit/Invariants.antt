use Rattle.std.proofs.Common.{ℕ, ◌<◌, get_or}
use Rattle.journal.specs.Fit.{NumbersFit}
use Rattle.journal.specs.declared.command.Command.{Command}
use Rattle.world_tests.proofs.script_steps.all_fit.Given as goal

abbrev pub invariant-loop-command : goal.invariant-loop-command
invariant-loop-command l = (k : ℕ) (d : Command) → k < l.command-index → NumbersFit 8 (get_or l.commands k d)
