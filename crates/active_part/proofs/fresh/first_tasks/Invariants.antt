use Rattle.std.proofs.Common.{length}
use Rattle.active_part.proofs.Filling.{IsFilling}
use Rattle.active_part.proofs.fresh.first_tasks.Given as goal

abbrev pub invariant-loop-rest : goal.invariant-loop-rest
invariant-loop-rest l = IsFilling l.fn.rests.items l.left.items l.tasks.entries.items

abbrev pub decreases-loop-rest : goal.decreases-loop-rest
decreases-loop-rest l = length l.left.items
