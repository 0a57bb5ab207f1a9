use Rattle.trace_laws.proofs.FirstBad.{first-bad}
use Rattle.trace_laws.proofs.law.a_first_bad_line_is_shown.Goals as goal

pub returns : goal.returns
returns c = first-bad
