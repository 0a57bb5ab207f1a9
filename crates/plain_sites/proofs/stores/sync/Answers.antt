use Rattle.std.proofs.Common.{◌∙◌, ap, refl, sym}
use Rattle.eden_value.specs.declared.status.Status.TheVariants as status
use Rattle.journal.specs.Stores as stores
use Rattle.journal.specs.World.{on_node}
use Rattle.plain_calls.specs.View.{traffic_of}
use Rattle.plain_sites.specs.View.{site_at}
use Rattle.plain_sites.proofs.Sites.{made-same}
use Rattle.plain_sites.proofs.StoreTurns.{for-first, serves-as, serves-unsynced, sync-fault}
use Rattle.plain_sites.proofs.stores.sync.Goals as goal

pub returns-in-Part : goal.returns-in-Part
unfolding on_node
returns-in-Part c ts r p h ends = made-same ts _ _ _ _ _ _ c.sync.ensures.number (c.sync.ensures.node ts) refl
    ∙ ap (λ e. stores.worked stores.syncs r e p (site_at ts c.args.node.now c.args.calls.now)) (sym c.in-Part.is)

pub returns-in-Stop : goal.returns-in-Stop
returns-in-Stop c ts r p h ends = c.crash.ensures ts
    ∙ ap (λ e. stores.worked stores.syncs r e p (site_at ts c.args.node.now c.args.calls.now)) (sym c.in-Stop.is)

pub returns-in_default : goal.returns-in_default
returns-in_default c ts r p h ends =
    let t = traffic_of c.args.calls.now in
    let s = site_at ts c.args.node.now c.args.calls.now in
    let x = serves-as _ _ r (c.unsync.ensures ts t) (serves-unsynced s r h) in
    for-first _ _ r (c.end_first.ensures ts t x.in_order x.answers) x.first
    ∙ (ap (stores.request_ended r status.StoreFault) (c.unsync.ensures ts t)
    ∙ ap (λ e. stores.worked stores.syncs r e p s) (sym (sync-fault c.args.end p c.in_default.not-Part c.in_default.not-Stop ends)))
