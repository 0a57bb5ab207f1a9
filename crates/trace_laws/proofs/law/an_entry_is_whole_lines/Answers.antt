use Rattle.trace_laws.proofs.ClosedTexts.{lines-entry}
use Rattle.trace_laws.proofs.law.an_entry_is_whole_lines.Goals as goal

pub returns : goal.returns
returns c = lines-entry
