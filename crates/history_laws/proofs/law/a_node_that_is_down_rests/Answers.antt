use Rattle.history_laws.proofs.CutOff.{down-nodes-rest}
use Rattle.history_laws.proofs.law.a_node_that_is_down_rests.Goals as goal

pub returns : goal.returns
returns c = down-nodes-rest
