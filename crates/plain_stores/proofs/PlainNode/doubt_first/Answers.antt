use Rattle.plain_stores.proofs.Nodes.{doubted-as}
use Rattle.plain_stores.proofs.PlainNode.doubt_first.Goals as goal

pub returns : goal.returns
returns c ts t order = doubted-as ts t c.args.self.now c.in-Some.request.now c.in_ok-wish.wish _
    c.in-Some.ensures.lookup c.in_ok-wish.ensures
    (c.leave_in_doubt.ensures ts order)
