use Rattle.move_world.proofs.Running.{logs-are-runs, logs-hold-once, logs-show-fresh}
use Rattle.move_world.proofs.law.ejects_are_held_once.Goals as goal

pub returns : goal.returns
returns c = record { runs = logs-are-runs; once = logs-hold-once; fresh = logs-show-fresh }
