use Rattle.lossy_wire.proofs.Runs.{Going}
use Rattle.lossy_wire.proofs.run.run_wire.Given as goal

abbrev pub invariant-loop-spot : goal.invariant-loop-spot
invariant-loop-spot l = Going l.script l.world l.text.items l.spot-iterator.rest.items
