use Rattle.std.proofs.Common.{rules}
use Rattle.transcript.proofs.write_history.Goals as goal

pub returns-in-Summary-clause-all : goal.returns-in-Summary-clause-all
returns-in-Summary-clause-all g c = search rules

pub returns-in-Summary-clause-part : goal.returns-in-Summary-clause-part
returns-in-Summary-clause-part g c = search rules
