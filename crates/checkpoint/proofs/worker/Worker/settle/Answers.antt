use Rattle.std.proofs.Common.{refl, subst, ◌∙◌, arith}
use Rattle.checkpoint.proofs.OneCalls.{one-going, one-refused}
use Rattle.checkpoint.proofs.StoreCalls.{settles-once}
use Rattle.checkpoint.proofs.WorkerSteps.{settle-goes-on, settle-picks, settle-refused}
use Rattle.checkpoint.specs.Asked.{EndsFirst}
use Rattle.checkpoint.proofs.Touching.{one-refused-so, obeyed-refused}
use Rattle.checkpoint.proofs.worker.Worker.settle.Goals as goal

pub returns-in-Ok-Going-clause-steps : goal.returns-in-Ok-Going-clause-steps
returns-in-Ok-Going-clause-steps g c = λ so s told h. (
  settle-goes-on _ _ s _ _ _ _ c.in-Ok-Going.field-0 c.requires.some c.in-Ok-Going.field-0-is h
      (settles-once _ _ _ _ _ _ so c.requires.unsettled c.in-Ok-Going.ensures),
  omega (arith, c.in-Ok-Going.ensures.more),
)

pub returns-in-Ok-Done-clause-steps : goal.returns-in-Ok-Done-clause-steps
returns-in-Ok-Done-clause-steps g c = λ so s told h. (
  settle-picks _ _ s _ _ _ _ _ c.in-Ok-Done.field-0 c.requires.some c.in-Ok-Done.field-0-is
      (c.found_of.ensures.pick (λ none. absurd (cc none)) ∙ c.picked.ensures) h
      (settles-once _ _ _ _ _ _ so c.requires.unsettled c.in-Ok-Done.ensures),
  omega (arith, c.in-Ok-Done.ensures.more),
)

pub returns-in-Err-clause-steps : goal.returns-in-Err-clause-steps
returns-in-Err-clause-steps g c = λ so s told h. (
  settle-refused _ _ s _ _ _ _ _ c.in-Err.refusal _
      (subst (λ k. EndsFirst c.args.self.now.requests.items c.end.new.self.requests.items k c.end.result) c.end_of.ensures
      c.end.ensures.ended) h
      (settles-once _ _ _ _ _ _ so c.requires.unsettled c.in-Err.ensures),
  omega (arith, c.in-Err.ensures.more),
)

pub returns-in-Ok-Going-clause-calls : goal.returns-in-Ok-Going-clause-calls
returns-in-Ok-Going-clause-calls g c = one-going _ _ _ refl c.in-Ok-Going.ensures.counts

pub returns-in-Ok-Done-clause-calls : goal.returns-in-Ok-Done-clause-calls
returns-in-Ok-Done-clause-calls g c = one-going _ _ _ refl c.in-Ok-Done.ensures.counts

pub returns-in-Err-clause-calls : goal.returns-in-Err-clause-calls
returns-in-Err-clause-calls g c = one-refused _ _ c.in-Err.refusal _ _ _ _ c.end_of.ensures c.in-Err.ensures.only c.end.ensures.ended
    c.in-Err.ensures.counts

pub returns-in-Err-clause-one : goal.returns-in-Err-clause-one
returns-in-Err-clause-one g c = one-refused-so _ _ _ _ c.in-Err.refusal _ _ c.end_of.ensures c.in-Err.ensures.only c.end.ensures.ended
    c.in-Err.ensures.counts

pub returns-in-Err-clause-obeyed : goal.returns-in-Err-clause-obeyed
returns-in-Err-clause-obeyed g c = obeyed-refused _ _ _ _ _ c.in-Err.refusal _ _ _ _ c.end_of.ensures c.in-Err.ensures.only
    c.end.ensures.ended c.in-Err.ensures.goes.obeyed
