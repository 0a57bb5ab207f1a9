use Rattle.std.proofs.Common.{◌<◌, length}
use Rattle.journal.specs.Stores.{AllowsStore}
use Rattle.plain_stores.specs.View.{site_of}
use Rattle.plain_stores.proofs.Nodes.{some-first}
use Rattle.plain_stores.proofs.PlainNode.may_take_turn.Goals as goal

pub returns-in-Some : goal.returns-in-Some
returns-in-Some c ts t order =
    let rs = c.args.self.now.requests.items in
    let more : 0 < length rs = c.in-Some.ensures.item.3.0 in
    some-first (AllowsStore (site_of ts t c.args.self.now) c.args.uid c.args.end c.args.pick) c.allows.result rs c.in-Some.request.now more
    c.in-Some.ensures.lookup (c.allows.ensures ts t order)
