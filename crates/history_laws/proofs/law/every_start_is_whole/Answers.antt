use Rattle.history_laws.proofs.StartsWholeLaw.{starts-are-whole}
use Rattle.history_laws.proofs.law.every_start_is_whole.Goals as goal

pub returns : goal.returns
returns c = starts-are-whole
