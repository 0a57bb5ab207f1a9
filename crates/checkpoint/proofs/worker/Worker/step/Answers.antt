use Rattle.std.proofs.Common.{Option, sym, ap, ◌∙◌, arith, is_some}
use Rattle.capability.specs.declared.Uid.{Uid}
use Rattle.checkpoint.proofs.WorkerSteps.{goes-on}
use Rattle.passive_store.specs.Seen.{Seen}
use Rattle.checkpoint.proofs.Touching.{once-made, touched-job, touched-settling, unsettled-some, raises-one}
use Rattle.checkpoint.proofs.worker.Worker.step.Goals as goal

pub returns-then-self-clause-steps : goal.returns-then-self-clause-steps
returns-then-self-clause-steps g c = λ so s told h. (
  c.advance.ensures.steps so s _ _ (goes-on _ _ s _ _ c.requires.some (sym c.requires.begun ∙ c.if-self.true) h),
  omega (arith, c.advance.ensures.more),
)

pub returns-then-self-clause-touches : goal.returns-then-self-clause-touches
returns-then-self-clause-touches g c = λ so s told h.
    let x : Seen = g.St.Store.seen c.args.store.now in
    once-made _ _ _ _ (touched-job g.St.Store.layout x.node s c.args.self.now.requests.items x _ _
    (goes-on _ _ s _ _ c.requires.some (sym c.requires.begun ∙ c.if-self.true) h)) c.advance.ensures.one

pub returns-then-self-clause-whose : goal.returns-then-self-clause-whose
returns-then-self-clause-whose g c = c.advance.ensures.whose _

pub returns-then-self-clause-raises : goal.returns-then-self-clause-raises
returns-then-self-clause-raises g c = raises-one _ _ _ c.advance.ensures.one

pub returns-in-Some-clause-touches : goal.returns-in-Some-clause-touches
returns-in-Some-clause-touches g c = λ so s told h.
    let x : Seen = g.St.Store.seen c.args.store.now in
    once-made _ _ _ _ (touched-settling g.St.Store.layout x.node s c.args.self.now.requests.items x c.requires.some
    (unsettled-some x.work (sym c.requires.begun ∙ c.if-self.false)
    (ap (λ (o : Option Uid). is_some o) (sym c.unsure.ensures ∙ c.in-Some.is))) h) c.settle.ensures.one

pub returns-in-Some-clause-raises : goal.returns-in-Some-clause-raises
returns-in-Some-clause-raises g c = raises-one _ _ _ c.settle.ensures.one

pub returns-then-self-clause-stays : goal.returns-then-self-clause-stays
returns-then-self-clause-stays g c = λ begun. c.advance.ensures.stays
