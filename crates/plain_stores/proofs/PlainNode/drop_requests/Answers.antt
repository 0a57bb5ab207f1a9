use Rattle.std.proofs.Common.{◌∙◌, ap, filter, map}
use Rattle.plain_stores.specs.View.{node_of, request_of, stays}
use Rattle.plain_stores.proofs.Nodes.{dropped-as}
use Rattle.plain_stores.proofs.PlainNode.drop_requests.Goals as goal

pub returns-clause-node : goal.returns-clause-node
returns-clause-node c ts = ap (λ l. record (node_of ts c.args.self.now) { requests = l })
    (c.drop_unmade.ensures ∙ (ap (filter (stays c.args.uid)) c.leave_process.ensures
    ∙ dropped-as c.args.uid (map request_of c.args.self.now.requests.items)))
