use Rattle.std.proofs.Common.{◌≡◌, refl, subst, sym}
use Rattle.eden_value.specs.declared.status.Status.TheVariants as status
use Rattle.journal.specs.Sites.{InOrder}
use Rattle.journal.specs.World.{eject_in}
use Rattle.plain_calls.specs.View.{traffic_of}
use Rattle.plain_sites.specs.View.{IsPassive, site_at}
use Rattle.plain_sites.proofs.StoreTurns.{done-kept, done-removed, for-first, order-deactivated, order-ended, passive-deactivated}
use Rattle.plain_stores.proofs.Nodes.{first-is}
use Rattle.plain_stores.specs.View.{request_of}
use Rattle.plain_sites.proofs.stores.succeed.Goals as goal

pub returns-in_ok-turn_away : goal.returns-in_ok-turn_away
returns-in_ok-turn_away c ts r h =
    let t = traffic_of c.args.calls.now in
    let s = site_at ts c.args.node.now c.args.calls.now in
    let q = request_of c.in-Some.request.now in
    let same : r ≡ q = for-first (λ x. x ≡ q) _ r
    (first-is (λ x. x ≡ q) c.args.node.now.requests.items c.in-Some.request.now c.in-Some.ensures.lookup refl) h.first in
    let ended = for-first _ _ r (c.end_first.ensures ts t h.in_order h.answers) h.first in
    let order = subst (λ x. InOrder x.node.ejects) (sym ended) (order-ended s r status.Ok h.in_order) in
    let left = c.in_ok-end_active.ensures ts order in
    let behind = subst (λ x. InOrder x.node.ejects) (sym left) (order-deactivated q.uid _ order) in
    let passive = subst (λ x. IsPassive (eject_in x q.uid)) (sym left) (passive-deactivated q.uid _) in
    done-removed s _ _ _ r q c.is_removal-removes.result same ended left (c.in_ok-turn_away.ensures ts behind passive)
    c.is_removal-removes.ensures c.if-removes.true

pub returns-else-removes : goal.returns-else-removes
returns-else-removes c ts r h =
    let t = traffic_of c.args.calls.now in
    let s = site_at ts c.args.node.now c.args.calls.now in
    let q = request_of c.in-Some.request.now in
    let same : r ≡ q = for-first (λ x. x ≡ q) _ r
    (first-is (λ x. x ≡ q) c.args.node.now.requests.items c.in-Some.request.now c.in-Some.ensures.lookup refl) h.first in
    done-kept s _ r q c.is_removal-removes.result same (for-first _ _ r (c.end_first.ensures ts t h.in_order h.answers) h.first)
    c.is_removal-removes.ensures c.if-removes.false
