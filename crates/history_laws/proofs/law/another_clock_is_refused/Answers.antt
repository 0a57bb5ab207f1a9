use Rattle.history_laws.proofs.RefusedRuns.{other-clock-is-refused}
use Rattle.history_laws.proofs.law.another_clock_is_refused.Goals as goal

pub returns : goal.returns
returns c = other-clock-is-refused
