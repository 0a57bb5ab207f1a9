use Rattle.std.proofs.Common.{◌∙◌, ap, subst, sym}
use Rattle.journal.specs.Deliveries.{AllowsRequest, requested}
use Rattle.journal.specs.World.{on_traffic}
use Rattle.plain_sites.specs.View.{site_at}
use Rattle.plain_stores.specs.View.{site_of}
use Rattle.plain_sites.proofs.messages.deliver.Goals as goal

pub returns-in_ok-refuse-in-Some : goal.returns-in_ok-refuse-in-Some
unfolding on_traffic
returns-in_ok-refuse-in-Some c a b sound may =
    ap (λ t. site_of c.args.types.now t c.args.node.now) c.in_ok-refuse-in-Some.ensures
    ∙ ap (λ r. requested c.args.number r (site_at c.args.types.now c.args.node.now c.args.calls.now)) (sym c.in-Some.is)

pub returns-in_ok-admit-in-None : goal.returns-in_ok-admit-in-None
returns-in_ok-admit-in-None c a b sound may =
    let s = site_at c.args.types.now c.args.node.now c.args.calls.now in
    c.in_ok-admit-in-None.ensures a b sound (subst (AllowsRequest s c.args.number a b) c.in-None.is may)
    ∙ ap (λ r. requested c.args.number r s) (sym c.in-None.is)
