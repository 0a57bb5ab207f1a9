use Rattle.history_laws.proofs.AtTheOpening.{at-the-opening}
use Rattle.history_laws.proofs.law.disks_stand_at_the_opening.Goals as goal

pub returns : goal.returns
returns c = at-the-opening
