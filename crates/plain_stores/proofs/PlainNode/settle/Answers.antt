use Rattle.plain_stores.proofs.Nodes.{settled-as}
use Rattle.plain_stores.proofs.PlainNode.settle.Goals as goal

pub returns : goal.returns
returns c ts t = settled-as ts t c.args.self.now c.args.pick c.in-Some.made c.epoch_picked-self.result _ c.in-Some.is
    (c.epoch_picked-self.ensures ts) (c.settle_each.ensures ts)
