use Rattle.std.proofs.Common.{◌≡◌, ◌∙◌, ap, subst, sym}
use Rattle.journal.specs.Sites.{InOrder}
use Rattle.journal.specs.Starts.{activated, start_settled}
use Rattle.journal.specs.World.{Site, eject_in}
use Rattle.plain_calls.specs.View.{traffic_of}
use Rattle.plain_sites.specs.View.{IsPassive, site_at}
use Rattle.plain_sites.proofs.Awake.{order-started, passive-started}
use Rattle.plain_sites.proofs.activations.activate.Goals as goal

pub returns : goal.returns
returns c sound may =
    let ts = c.args.types.now in
    let s = site_at ts c.args.node.now c.args.calls.now in
    let settled : site_at ts c.settle_first.new.node c.args.calls.now ≡ start_settled c.args.pick s =
    c.settle_first.ensures ts (traffic_of c.args.calls.now) in
    c.in_ok-come_to.ensures
    (subst (λ (x : Site). InOrder x.node.ejects) (sym settled) (order-started c.args.pick s sound.node.in_order))
    (subst (λ (x : Site). IsPassive (eject_in x c.args.uid)) (sym settled)
    (passive-started c.args.pick s c.args.uid c.args.end c.args.pick may))
    ∙ ap (activated c.args.uid c.args.end) settled
