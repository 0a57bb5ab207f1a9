use Rattle.history_laws.proofs.SiteRuns.{enabled-keys-have-turns}
use Rattle.history_laws.proofs.law.an_enabled_key_has_its_turn.Goals as goal

pub returns : goal.returns
returns c = enabled-keys-have-turns
