use Rattle.std.proofs.Common.{rules}
use Rattle.plain_sites.proofs.effects.refusal_at_once.Goals as goal

pub returns-then-values_size-from : goal.returns-then-values_size-from
returns-then-values_size-from c = search rules
