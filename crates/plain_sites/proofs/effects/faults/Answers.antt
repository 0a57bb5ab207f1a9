use Rattle.std.proofs.Common.{◌∙◌, ap, subst, sym}
use Rattle.eden_value.specs.declared.status.Status.TheVariants as status
use Rattle.journal.specs.Ejects.{turned_away}
use Rattle.journal.specs.Sites.{InOrder}
use Rattle.journal.specs.World.{eject_in}
use Rattle.plain_sites.specs.View.{IsPassive, site_at}
use Rattle.plain_sites.proofs.StoreTurns.{order-deactivated, passive-deactivated}
use Rattle.plain_sites.proofs.effects.faults.Goals as goal

pub returns : goal.returns
returns c ts order =
    let s = site_at ts c.args.node.now c.args.calls.now in
    let left = c.in_ok-end_active.ensures ts order in
    let behind = subst (λ x. InOrder x.node.ejects) (sym left) (order-deactivated c.args.uid s order) in
    let passive = subst (λ x. IsPassive (eject_in x c.args.uid)) (sym left) (passive-deactivated c.args.uid s) in
    c.in_ok-turn_away.ensures ts behind passive ∙ ap (turned_away c.args.uid status.Dropped) left
