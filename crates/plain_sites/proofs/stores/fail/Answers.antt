use Rattle.std.proofs.Common.{◌∙◌, ap}
use Rattle.eden_value.specs.declared.status.Status.TheVariants as status
use Rattle.journal.specs.Stores as stores
use Rattle.plain_sites.proofs.StoreTurns.{for-first, serves-as, serves-doubted}
use Rattle.plain_stores.specs.View.{site_of}
use Rattle.plain_sites.proofs.stores.fail.Goals as goal

pub returns : goal.returns
returns c ts t r h =
    let s = site_of ts t c.args.node.now in
    let doubted = for-first _ _ r (c.in_ok-doubt_first.ensures ts t h.in_order) h.first in
    let x = serves-as _ _ r doubted (serves-doubted s r h) in
    for-first _ _ r (c.end_first.ensures ts t x.in_order x.answers) x.first ∙ ap (stores.request_ended r status.StoreFault) doubted
