use Rattle.journal.specs.World.{on_node, on_traffic}
use Rattle.plain_sites.proofs.Sites.{made-same}
use Rattle.plain_sites.proofs.endings.crash.Goals as goal

pub returns : goal.returns
unfolding on_node on_traffic
returns c ts = made-same ts _ _ _ _ _ _ c.fall.ensures.number (c.fall.ensures.node ts) c.break_node.ensures
