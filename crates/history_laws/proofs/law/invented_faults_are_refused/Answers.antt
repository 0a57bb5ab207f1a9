use Rattle.history_laws.proofs.RefusedRuns.{invented-faults-are-refused}
use Rattle.history_laws.proofs.law.invented_faults_are_refused.Goals as goal

pub returns : goal.returns
returns c = invented-faults-are-refused
