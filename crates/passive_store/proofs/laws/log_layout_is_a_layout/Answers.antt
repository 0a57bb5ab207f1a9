use Rattle.passive_store.proofs.LogKept.{log_is_layout}
use Rattle.passive_store.proofs.laws.log_layout_is_a_layout.Goals as goal

pub returns : goal.returns
returns c = log_is_layout
