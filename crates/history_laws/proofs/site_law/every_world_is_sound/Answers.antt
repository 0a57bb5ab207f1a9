use Rattle.history_laws.proofs.SiteRuns.{worlds-are-sound}
use Rattle.history_laws.proofs.site_law.every_world_is_sound.Goals as goal

pub returns : goal.returns
returns c = worlds-are-sound
