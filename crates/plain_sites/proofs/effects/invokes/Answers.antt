use Rattle.std.proofs.Common.{ap}
use Rattle.journal.specs.Processes.{refused_at_once}
use Rattle.journal.specs.declared.event.Shown.TheVariants as shown
use Rattle.plain_calls.specs.View.{traffic_of}
use Rattle.plain_sites.proofs.Turning.{invoked-as}
use Rattle.plain_sites.proofs.effects.invokes.Goals as goal

pub returns-clause-shows : goal.returns-clause-shows
returns-clause-shows c = ap (λ k. shown.Invoke k) c.in_ok-call.ensures.number

pub returns-clause-changes : goal.returns-clause-changes
returns-clause-changes c ts e it h = invoked-as ts c.args.node.now c.act_on.new.node (traffic_of c.args.calls.now) _ c.args.uid
    c.args.process c.in_ok-call.call c.args.target c.args.operation c.args.args _ (refused_at_once c.args.reached c.args.args)
    (c.act_on.ensures ts (traffic_of c.args.calls.now) e it h tt) c.in_ok-call.ensures.calls c.in_ok-call.ensures.number
    c.refusal_at_once-at_once.ensures
