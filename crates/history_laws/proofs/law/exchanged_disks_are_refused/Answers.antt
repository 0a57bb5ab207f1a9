use Rattle.history_laws.proofs.RefusedRuns.{exchanged-disks-are-refused}
use Rattle.history_laws.proofs.law.exchanged_disks_are_refused.Goals as goal

pub returns : goal.returns
returns c = exchanged-disks-are-refused
