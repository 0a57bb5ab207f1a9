use Rattle.history_laws.proofs.RefusedRuns.{unwritten-disk-is-refused}
use Rattle.history_laws.proofs.law.an_unwritten_disk_is_refused.Goals as goal

pub returns : goal.returns
returns c = unwritten-disk-is-refused
