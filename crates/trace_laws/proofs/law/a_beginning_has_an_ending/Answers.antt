use Rattle.trace_laws.proofs.RunsEnd.{beginnings-have-endings}
use Rattle.trace_laws.proofs.law.a_beginning_has_an_ending.Goals as goal

pub returns : goal.returns
returns c = beginnings-have-endings
