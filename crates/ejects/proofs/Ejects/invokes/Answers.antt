use Rattle.std.proofs.Common.{◌≡◌, ◌+◌, ◌∙◌, length, ap, subst}
use Rattle.eden_model.specs.declared.Asker.TheVariants.{Eject as Process}
use Rattle.eden_model.specs.Traffic.{with_call}
use Rattle.invocation.specs.Carries.{Carries}
use Rattle.locator.specs.Reach.{reaches}
use Rattle.journal.specs.declared.event.Shown.TheVariants as shown
use Rattle.journal.specs.Processes.{refused_at_once}
use Rattle.active_part.specs.Bodies.{asking_body}
use Rattle.ejects.specs.View.{parts_of, with_body}
use Rattle.ejects.proofs.Counting.{asked-one}
use Rattle.ejects.proofs.Ejects.invokes.Goals as goal

pub returns-clause-invoked : goal.returns-clause-invoked
returns-clause-invoked c ts b is =
    let asks = c.in_ok-asked.ensures.cases in
    let it = c.in_ok-asked.asked in
    let refused = refused_at_once (reaches c.args.places.now c.args.uid.node c.args.target.uid.node) c.args.args in
    let number : it.call ≡ length c.args.calls.now.calls + 1 = asks.number in
    let at_once : it.at_once ≡ refused = asks.at_once in
    record {
      parts = c.ask_at.ensures ts b is ∙ ap
          (λ o. with_body c.args.uid (asking_body c.args.process o b) (parts_of ts c.args.self.now)) at_once;
      shown = ap (λ k. shown.Invoke k) number;
      calls = λ t carries. subst
          (λ o. Carries c.ask.new.self (with_call (length c.args.calls.now.calls + 1) (Process c.args.uid c.args.process) c.args.target
          c.args.operation c.args.args o t))
          at_once (subst (λ k. Carries c.ask.new.self
          (with_call k (Process c.args.uid c.args.process) c.args.target c.args.operation c.args.args it.at_once t))
          number (c.in_ok-asked.ensures.model t carries));
    }

pub returns-clause-asks : goal.returns-clause-asks
returns-clause-asks c = asked-one _ _ _ _ _ c.args.calls.now c.ask.new.self c.in_ok-asked.asked c.in_ok-asked.ensures.cases
