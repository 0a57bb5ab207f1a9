use Rattle.runs.proofs.Few.{entries-are-few}
use Rattle.runs.proofs.law.entries_are_few.Goals as goal

pub returns : goal.returns
returns c = entries-are-few
