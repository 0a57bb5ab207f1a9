use Rattle.std.proofs.Common.{refl}
use Rattle.journal.specs.World.{on_node}
use Rattle.plain_stores.proofs.PlainNode.unsync.Goals as goal

pub returns : goal.returns
unfolding on_node
returns c ts t = refl
