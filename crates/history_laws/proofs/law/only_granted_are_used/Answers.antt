use Rattle.history_laws.proofs.GrantedRuns.{only-granted}
use Rattle.history_laws.proofs.law.only_granted_are_used.Goals as goal

pub returns : goal.returns
returns c = only-granted
