use Rattle.std.proofs.Common.{rules}
use Rattle.invocation.proofs.refusal.Goals as goal

pub returns-then-values_size-from : goal.returns-then-values_size-from
returns-then-values_size-from c = search rules
