use Rattle.plain_stores.specs.View.{site_of}
use Rattle.plain_stores.proofs.Nodes.{needs-delete}
use Rattle.plain_stores.proofs.PlainNode.needs_calls.Goals as goal

pub returns-in-Delete : goal.returns-in-Delete
returns-in-Delete c ts t =
    needs-delete (site_of ts t c.args.self.now) c.args.request.now c.is_kept.result c.in-Delete.is (c.is_kept.ensures ts t)
