use Rattle.passive_blocks.proofs.ConvertMoments.{finishing_keeps}
use Rattle.passive_blocks.proofs.StagingMoments.{staging_keeps}
use Rattle.passive_blocks.proofs.convert_law.conversions_say_the_same.Goals as goal

pub returns-clause-beginning : goal.returns-clause-beginning
returns-clause-beginning c = staging_keeps

pub returns-clause-finishing : goal.returns-clause-finishing
returns-clause-finishing c = finishing_keeps
