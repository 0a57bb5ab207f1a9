use Rattle.std.proofs.Common.{◌∙◌, ap, subst, sym}
use Rattle.journal.specs.Ejects.{gone_if_unkept}
use Rattle.journal.specs.Sites.{InOrder}
use Rattle.plain_sites.specs.View.{site_at}
use Rattle.plain_sites.proofs.StoreTurns.{order-deactivated}
use Rattle.plain_sites.proofs.effects.deactivates.Goals as goal

pub returns : goal.returns
returns c ts order =
    let s = site_at ts c.args.node.now c.args.calls.now in
    let left = c.in_ok-end_active.ensures ts order in
    let behind = subst (λ x. InOrder x.node.ejects) (sym left) (order-deactivated c.args.uid s order) in
    c.in_ok-turn_away_unkept.ensures ts behind ∙ ap (gone_if_unkept c.args.uid) left
