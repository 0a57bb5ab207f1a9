use Rattle.std.proofs.Common.{false}
use Rattle.eden_move.proofs.Calling.{silent-went}
use Rattle.eden_move.proofs.node.MoveNode.wake.Goals as goal

pub returns-in-Ok-default-Shown-clause-carries : goal.returns-in-Ok-default-Shown-clause-carries
returns-in-Ok-default-Shown-clause-carries g c tells fits x up s = silent-went _ _ x _ false _ _ _ (λ e. e)
    (c.in-Ok-default-Shown.ensures.carries tells fits x up s)
