use Rattle.history_laws.proofs.SeatRuns.{monitors-are-held}
use Rattle.history_laws.proofs.site_law.every_monitor_is_held.Goals as goal

pub returns : goal.returns
returns c = monitors-are-held
