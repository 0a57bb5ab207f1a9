use Rattle.std.proofs.Common.{◌∙◌, ap, sym}
use Rattle.journal.specs.Stores as stores
use Rattle.plain_calls.specs.View.{traffic_of}
use Rattle.plain_sites.specs.View.{site_at}
use Rattle.plain_sites.proofs.StoreTurns.{call-fault}
use Rattle.plain_sites.proofs.stores.call.Goals as goal

pub returns-in_ok-go_on-in-Part : goal.returns-in_ok-go_on-in-Part
returns-in_ok-go_on-in-Part c ts r p h ends few =
    c.in_ok-go_on-in-Part.ensures ts (traffic_of c.args.calls.now) r h (few c.in-Part.is)
    ∙ ap (λ e. stores.worked stores.calls r e p (site_at ts c.args.node.now c.args.calls.now)) (sym c.in-Part.is)

pub returns-in_ok-finish-in-Done : goal.returns-in_ok-finish-in-Done
returns-in_ok-finish-in-Done c ts r p h ends few = c.in_ok-finish-in-Done.ensures ts r h
    ∙ ap (λ e. stores.worked stores.calls r e p (site_at ts c.args.node.now c.args.calls.now)) (sym c.in-Done.is)

pub returns-in_ok-stop-in-Stop : goal.returns-in_ok-stop-in-Stop
returns-in_ok-stop-in-Stop c ts r p h ends few = c.in_ok-stop-in-Stop.ensures ts r h
    ∙ ap (λ e. stores.worked stores.calls r e p (site_at ts c.args.node.now c.args.calls.now)) (sym c.in-Stop.is)

pub returns-in_ok-fail-in_default : goal.returns-in_ok-fail-in_default
returns-in_ok-fail-in_default c ts r p h ends few = c.in_ok-fail-in_default.ensures ts (traffic_of c.args.calls.now) r h
    ∙ ap (λ e. stores.worked stores.calls r e p (site_at ts c.args.node.now c.args.calls.now))
    (sym (call-fault c.args.end p c.in_default.not-Part c.in_default.not-Done c.in_default.not-Stop ends))
