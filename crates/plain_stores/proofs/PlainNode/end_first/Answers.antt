use Rattle.plain_stores.proofs.Nodes.{ended-none, ended-some, waits-as}
use Rattle.plain_stores.proofs.PlainNode.end_first.Goals as goal

pub returns-in-Some-asker : goal.returns-in-Some-asker
returns-in-Some-asker c ts t order waits =
    ended-some ts t c.args.self.now c.in-Some.request.now c.take_first.result c.take_first.new.requests.items c.in-Some-asker.process
    c.args.status _ c.in-Some.ensures.lookup c.take_first.ensures c.in-Some-asker.is
    (c.tell.ensures ts order (waits-as ts t c.args.self.now c.in-Some.request.now c.take_first.result c.take_first.new.requests.items
    c.in-Some-asker.process c.in-Some.ensures.lookup c.take_first.ensures c.in-Some-asker.is waits))

pub returns-in-None : goal.returns-in-None
returns-in-None c ts t order waits =
    ended-none ts t c.args.self.now c.in-Some.request.now c.take_first.result c.take_first.new.requests.items c.args.status
    c.in-Some.ensures.lookup c.take_first.ensures c.in-None.is
