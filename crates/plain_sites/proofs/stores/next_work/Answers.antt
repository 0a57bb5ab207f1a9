use Rattle.plain_sites.proofs.StoreTurns.{work-first}
use Rattle.plain_stores.specs.View.{site_of}
use Rattle.plain_sites.proofs.stores.next_work.Goals as goal

pub returns-in-Some : goal.returns-in-Some
returns-in-Some c ts t kept = work-first (site_of ts t c.args.node.now) _ c.args.node.now.requests.items c.in-Some.request.now
    c.in-Some.ensures.item.3.0 c.in-Some.ensures.lookup (c.work_for.ensures ts t kept)
