use Rattle.std.proofs.Common.{false}
use Rattle.eden_move.proofs.Calling.{sent-from}
use Rattle.eden_move.proofs.node.MoveNode.again.Goals as goal

pub returns-in-Ok-default-Sent-clause-carries : goal.returns-in-Ok-default-Sent-clause-carries
returns-in-Ok-default-Sent-clause-carries g c tells fits x up s = sent-from _ _ x _ false c.in-Ok-default-Sent.field-0-1 _ _ _ (λ post e. e)
    c.in-Ok-default-Sent.field-0-1-is (c.in-Ok-default-Sent.ensures.carries tells fits x up s)
