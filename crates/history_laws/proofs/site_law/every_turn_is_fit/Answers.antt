use Rattle.history_laws.proofs.FitTurns.{every-turn-is-fit}
use Rattle.history_laws.proofs.site_law.every_turn_is_fit.Goals as goal

pub returns : goal.returns
returns c = every-turn-is-fit
