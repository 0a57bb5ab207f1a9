use Rattle.std.proofs.Common.{◌<◌, ◌∙◌, ap, refl, subst, sym}
use Rattle.std.specs.Prelude.{IfSome}
use Rattle.journal.specs.World.{on_node}
use Rattle.plain_sites.specs.View.{called_again}
use Rattle.plain_sites.proofs.Sites.{made-same}
use Rattle.plain_sites.proofs.StoreTurns.{for-first, serves-as, serves-doubted}
use Rattle.plain_stores.specs.View.{site_of}
use Rattle.plain_sites.proofs.stores.go_on.Goals as goal

pub returns : goal.returns
unfolding on_node
returns c ts t r h few =
    let s = site_of ts t c.args.node.now in
    let doubted = for-first _ _ r (c.in_ok-doubt_first.ensures ts t h.in_order) h.first in
    let x = serves-as _ _ r doubted (serves-doubted s r h) in
    made-same ts _ _ _ _ _ _ c.make_call.ensures.number
    (c.make_call.ensures.node ts (subst (λ o. IfSome o (λ q. q.made < 4294967295)) (sym x.first) few)) refl
    ∙ ap called_again doubted
