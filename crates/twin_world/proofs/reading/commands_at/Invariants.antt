use Rattle.std.proofs.Common.{map}
use Rattle.twin_world.specs.View.{meant}
use Rattle.twin_world.proofs.Scripted.{Going}
use Rattle.twin_world.proofs.reading.commands_at.Given as goal

abbrev pub invariant-loop-spot : goal.invariant-loop-spot
invariant-loop-spot l = Going l.initial.bytes l.initial.most (map meant l.commands.items) l.spot-iterator.rest.items
