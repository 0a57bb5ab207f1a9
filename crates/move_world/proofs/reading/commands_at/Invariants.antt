use Rattle.std.proofs.Common.{map}
use Rattle.move_world.specs.View.{meant}
use Rattle.move_world.proofs.Scripted.{Going}
use Rattle.move_world.proofs.reading.commands_at.Given as goal

abbrev pub invariant-loop-spot : goal.invariant-loop-spot
invariant-loop-spot l = Going l.initial.bytes l.initial.nodes (map meant l.commands.items) l.spot-iterator.rest.items
