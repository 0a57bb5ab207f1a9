use Rattle.trace_laws.proofs.law.a_history_is_determined_by_its_text.Goals as goal
use Rattle.trace_laws.proofs.Histories.{histories-are-determined, texts-have-one}

pub returns-clause-so_far : goal.returns-clause-so_far
returns-clause-so_far c = histories-are-determined

pub returns-clause-whole : goal.returns-clause-whole
returns-clause-whole c = texts-have-one
