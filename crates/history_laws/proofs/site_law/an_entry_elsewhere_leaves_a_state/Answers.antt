use Rattle.history_laws.proofs.Elsewhere.{states-stay-elsewhere}
use Rattle.history_laws.proofs.site_law.an_entry_elsewhere_leaves_a_state.Goals as goal

pub returns : goal.returns
returns c = states-stay-elsewhere
