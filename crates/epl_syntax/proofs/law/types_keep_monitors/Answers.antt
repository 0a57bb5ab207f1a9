use Rattle.epl_syntax.proofs.GuardedTurns.{turn_keeps_monitors}
use Rattle.epl_syntax.proofs.GuardedSteps.{turn_stays_guarded}
use Rattle.epl_syntax.proofs.GuardedBegins.{operations_begin_guarded, processes_begin_guarded}
use Rattle.epl_syntax.proofs.law.types_keep_monitors.Goals as goal

pub returns-clause-operations : goal.returns-clause-operations
returns-clause-operations c = operations_begin_guarded

pub returns-clause-processes : goal.returns-clause-processes
returns-clause-processes c = processes_begin_guarded

pub returns-clause-turns : goal.returns-clause-turns
returns-clause-turns c = turn_stays_guarded

pub returns-clause-others : goal.returns-clause-others
returns-clause-others c = turn_keeps_monitors
