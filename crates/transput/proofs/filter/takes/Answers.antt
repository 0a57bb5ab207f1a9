use Rattle.std.proofs.Common.{rules}
use Rattle.transput.proofs.filter.takes.Goals as goal

pub returns-then-passes : goal.returns-then-passes
returns-then-passes c = search rules
