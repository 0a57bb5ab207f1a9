use Rattle.plain_stores.specs.View.{request_of, site_of}
use Rattle.plain_stores.proofs.Nodes.{later-as}
use Rattle.plain_stores.proofs.PlainNode.work_for.Goals as goal

pub returns : goal.returns
returns c ts t order = later-as (site_of ts t c.args.self.now) (request_of c.args.request.now) _ c.is_in_doubt.result c.if-request-gt0.false
    (c.is_in_doubt.ensures ts) c.if-is_in_doubt.false (c.first_work.ensures ts t order)
