use Rattle.history_laws.proofs.EpochBounds.{epochs-are-bounded}
use Rattle.history_laws.proofs.site_law.every_epoch_is_bounded.Goals as goal

pub returns : goal.returns
returns c = epochs-are-bounded
