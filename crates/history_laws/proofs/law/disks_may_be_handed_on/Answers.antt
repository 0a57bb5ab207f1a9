use Rattle.history_laws.proofs.LeftFit.{handed-on}
use Rattle.history_laws.proofs.law.disks_may_be_handed_on.Goals as goal

pub returns : goal.returns
returns c = handed-on
