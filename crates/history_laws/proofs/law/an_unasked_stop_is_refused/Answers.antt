use Rattle.history_laws.proofs.RefusedRuns.{unasked-stop-is-refused}
use Rattle.history_laws.proofs.law.an_unasked_stop_is_refused.Goals as goal

pub returns : goal.returns
returns c = unasked-stop-is-refused
