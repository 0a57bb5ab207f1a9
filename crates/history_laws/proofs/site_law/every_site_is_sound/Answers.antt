use Rattle.history_laws.proofs.SiteRuns.{sites-are-sound}
use Rattle.history_laws.proofs.site_law.every_site_is_sound.Goals as goal

pub returns : goal.returns
returns c = sites-are-sound
