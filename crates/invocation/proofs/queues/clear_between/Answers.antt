use Rattle.std.proofs.Common.{rules}
use Rattle.invocation.proofs.queues.clear_between.Goals as goal

pub returns-then-a-b : goal.returns-then-a-b
returns-then-a-b c = search rules
