use Rattle.history_laws.proofs.Falling.{falls-turn, falls-world}
use Rattle.history_laws.proofs.site_law.a_stop_ends_in_a_fall.Goals as goal

pub returns : goal.returns
returns c = record { at_site = falls-turn; in_world = falls-world }
