use Rattle.eden_world.proofs.TurnEntries.{turns-go}
use Rattle.eden_world.proofs.law.a_turn_is_a_step.Goals as goal

pub returns : goal.returns
returns c = turns-go
