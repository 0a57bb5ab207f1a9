use Rattle.run_laws.proofs.Spent.{spent-is-full}
use Rattle.run_laws.proofs.law.spent_disks_are_full.Goals as goal

pub returns : goal.returns
returns c = spent-is-full
