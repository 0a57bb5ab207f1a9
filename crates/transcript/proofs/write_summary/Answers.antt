use Rattle.std.proofs.Common.{rules}
use Rattle.transcript.proofs.write_summary.Goals as goal

pub returns-clause-all : goal.returns-clause-all
returns-clause-all g c = search rules
