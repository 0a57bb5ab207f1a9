use Rattle.value_laws.proofs.Histories as histories
use Rattle.value_laws.proofs.law.histories_keep_limits.Goals as goal

pub returns : goal.returns
returns c = histories.histories-keep-limits
