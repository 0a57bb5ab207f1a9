use Rattle.plain_stores.proofs.Nodes.{settle-as}
use Rattle.plain_stores.proofs.PlainNode.is_to_settle.Goals as goal

pub returns-then-is_in_doubt : goal.returns-then-is_in_doubt
returns-then-is_in_doubt c ts t = settle-as c.is_in_doubt.result c.is_working.result _ _ (c.is_in_doubt.ensures ts) c.if-is_in_doubt.true
    (c.is_working.ensures ts)
