use Rattle.history_laws.proofs.HeldRuns.{held-calls-are-work}
use Rattle.history_laws.proofs.site_law.a_held_call_is_run_or_queued.Goals as goal

pub returns : goal.returns
returns c = held-calls-are-work
