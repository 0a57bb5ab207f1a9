use Rattle.std.proofs.Common.{length}
use Rattle.mistakes.proofs.before.behind_nodes.Given as goal

abbrev pub decreases-loop-rest : goal.decreases-loop-rest
decreases-loop-rest l = length l.rest
