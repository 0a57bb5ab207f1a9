use Rattle.std.proofs.Common.{arith}
use Rattle.plain_sites.proofs.ejects.join_queue.Goals as goal

pub returns-then-is_full : goal.returns-then-is_full
returns-then-is_full c ts few = absurd (omega (arith, few, (c.is_full.ensures.full ts).0 c.if-is_full.true))
