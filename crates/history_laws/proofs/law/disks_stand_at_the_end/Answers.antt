use Rattle.history_laws.proofs.AtTheEnd.{at-the-end}
use Rattle.history_laws.proofs.law.disks_stand_at_the_end.Goals as goal

pub returns : goal.returns
returns c = at-the-end
