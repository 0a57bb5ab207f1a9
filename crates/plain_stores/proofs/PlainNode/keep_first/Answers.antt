use Rattle.plain_stores.proofs.Nodes.{stored-as}
use Rattle.plain_stores.proofs.PlainNode.keep_first.Goals as goal

pub returns : goal.returns
returns c ts t order = stored-as ts t c.args.self.now c.in-Some.request.now c.in_ok-wish.wish _
    c.in-Some.ensures.lookup c.in_ok-wish.ensures
    (c.keep.ensures ts order)
