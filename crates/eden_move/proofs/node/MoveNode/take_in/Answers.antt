use Rattle.std.proofs.Common.{refl}
use Rattle.eden_move.proofs.Calling.{sent-from}
use Rattle.eden_move.proofs.node.MoveNode.take_in.Goals as goal

pub returns-in-Ok-default-Sent-clause-carries : goal.returns-in-Ok-default-Sent-clause-carries
returns-in-Ok-default-Sent-clause-carries g c tells to fits x up s =
    sent-from _ _ x _ _ c.in-Ok-default-Sent.field-0-1 _ _ _ (λ post e. refl)
    c.in-Ok-default-Sent.field-0-1-is (c.in-Ok-default-Sent.ensures.carries tells fits x up s)
