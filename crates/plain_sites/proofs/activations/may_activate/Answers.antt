use Rattle.std.proofs.Common.{ap, is_some, subst}
use Rattle.std.specs.Prelude.{IfSome}
use Rattle.journal.specs.World.{Site}
use Rattle.plain_choices.specs.View.{IsStartOf}
use Rattle.plain_stores.specs.View.{site_of}
use Rattle.plain_sites.proofs.Awake.{allows-as, no-facts, not-allowed}
use Rattle.plain_sites.proofs.activations.may_activate.Goals as goal

pub returns-in-Some : goal.returns-in-Some
returns-in-Some c t =
    let ts = c.args.types.now in
    let s : Site = site_of ts t c.args.node.now in
    allows-as s c.args.uid c.args.end c.args.pick c.may_wake.result c.may_start.result (c.may_wake.ensures ts t) c.if-may_wake.true
    (c.may_start.ensures s c.args.uid
    (subst (λ o. IfSome o (λ f. IsStartOf f s c.args.uid)) c.in-Some.is (c.in_ok-facts.ensures.facts t)))

pub returns-in-None : goal.returns-in-None
returns-in-None c t =
    let ts = c.args.types.now in
    no-facts (site_of ts t c.args.node.now) c.args.uid c.args.end c.args.pick _ (c.in_ok-facts.ensures.there t) (ap is_some c.in-None.is)

pub returns-else-may_wake : goal.returns-else-may_wake
returns-else-may_wake c t =
    let ts = c.args.types.now in
    not-allowed (site_of ts t c.args.node.now) c.args.uid c.args.end c.args.pick c.may_wake.result (c.may_wake.ensures ts t)
    c.if-may_wake.false
