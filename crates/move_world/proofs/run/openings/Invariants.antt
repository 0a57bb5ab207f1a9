use Rattle.std.proofs.Common.{◌≡◌, map}
use Rattle.move_world.specs.Logs.{openings_from}
use Rattle.move_world.specs.View.{meant}
use Rattle.move_world.proofs.run.openings.Given as goal

abbrev pub invariant-loop-n : goal.invariant-loop-n
invariant-loop-n l = map meant l.commands.items ≡ openings_from 1 l.n
