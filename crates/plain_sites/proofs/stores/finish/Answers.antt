use Rattle.std.proofs.Common.{◌∙◌, ap}
use Rattle.journal.specs.Stores as stores
use Rattle.plain_calls.specs.View.{traffic_of}
use Rattle.plain_sites.specs.View.{site_at}
use Rattle.plain_sites.proofs.StoreTurns.{for-first, serves-as, serves-stored}
use Rattle.plain_sites.proofs.stores.finish.Goals as goal

pub returns : goal.returns
returns c ts r h =
    let s = site_at ts c.args.node.now c.args.calls.now in
    let kept = for-first _ _ r (c.in_ok-keep_first.ensures ts (traffic_of c.args.calls.now) h.in_order) h.first in
    c.in_ok-succeed.ensures ts r (serves-as _ _ r kept (serves-stored s r h)) ∙ ap (stores.done r) kept
