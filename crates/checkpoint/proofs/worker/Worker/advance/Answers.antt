use Rattle.std.proofs.Common.{refl, sym, subst, ◌∙◌}
use Rattle.checkpoint.proofs.OneCalls.{one-going, one-fine, one-refused}
use Rattle.checkpoint.proofs.StoreCalls.{advances-once}
use Rattle.checkpoint.proofs.WorkerSteps.{advance-goes-on, advance-ends, advance-refused, busy-advanced, done-advanced, refused-advanced}
use Rattle.checkpoint.specs.Asked.{EndsFirst}
use Rattle.checkpoint.proofs.Touching.{one-refused-so, one-ended-so, obeyed-refused, obeyed-ended}
use Rattle.checkpoint.proofs.worker.Worker.advance.Goals as goal

pub returns-in-Ok-Going-clause-steps : goal.returns-in-Ok-Going-clause-steps
returns-in-Ok-Going-clause-steps g c = λ so s w more before.
    advance-goes-on _ _ s _ _ _ w more c.in-Ok-Going.field-0 c.requires.some c.in-Ok-Going.field-0-is before
    (advances-once _ _ _ _ _ _ so c.requires.busy c.in-Ok-Going.ensures)

pub returns-in-Ok-Done-clause-steps : goal.returns-in-Ok-Done-clause-steps
returns-in-Ok-Done-clause-steps g c = λ so s w more before.
    advance-ends _ _ s _ _ _ _ w more c.in-Ok-Done.field-0 _ c.end.ensures.ended c.in-Ok-Done.field-0-is before
    (advances-once _ _ _ _ _ _ so c.requires.busy c.in-Ok-Done.ensures)

pub returns-in-Err-clause-steps : goal.returns-in-Err-clause-steps
returns-in-Err-clause-steps g c = λ so s w more before. advance-refused _ _ s _ _ _ _ w more c.in-Err.refusal _
    (subst (λ k. EndsFirst c.args.self.now.requests.items c.end-in-Err.new.self.requests.items k c.end-in-Err.result) c.end_of.ensures
    c.end-in-Err.ensures.ended) before
    (advances-once _ _ _ _ _ _ so c.requires.busy c.in-Err.ensures)

pub returns-in-Ok-Going-clause-begun : goal.returns-in-Ok-Going-clause-begun
returns-in-Ok-Going-clause-begun g c = sym (busy-advanced _ _ _ c.requires.busy c.in-Ok-Going.field-0-is c.in-Ok-Going.ensures.work)

pub returns-in-Ok-Done-clause-begun : goal.returns-in-Ok-Done-clause-begun
returns-in-Ok-Done-clause-begun g c = c.end.ensures.begun ∙ sym (done-advanced _ _ _ c.in-Ok-Done.field-0-is c.in-Ok-Done.ensures.work)

pub returns-in-Err-clause-begun : goal.returns-in-Err-clause-begun
returns-in-Err-clause-begun g c = c.end-in-Err.ensures.begun ∙ sym (refused-advanced _ _ _ c.in-Err.ensures.work)

pub returns-in-Ok-Going-clause-calls : goal.returns-in-Ok-Going-clause-calls
returns-in-Ok-Going-clause-calls g c = one-going _ _ _ refl c.in-Ok-Going.ensures.counts

pub returns-in-Ok-Done-clause-calls : goal.returns-in-Ok-Done-clause-calls
returns-in-Ok-Done-clause-calls g c = one-fine _ _ _ _ _ _ 1 refl refl c.end.ensures.ended c.in-Ok-Done.ensures.counts

pub returns-in-Err-clause-calls : goal.returns-in-Err-clause-calls
returns-in-Err-clause-calls g c = one-refused _ _ c.in-Err.refusal _ _ _ _ c.end_of.ensures c.in-Err.ensures.only c.end-in-Err.ensures.ended
    c.in-Err.ensures.counts

pub returns-in-Ok-Done-clause-one : goal.returns-in-Ok-Done-clause-one
returns-in-Ok-Done-clause-one g c = one-ended-so _ _ _ _ _ _ refl c.end.ensures.ended c.in-Ok-Done.ensures.counts

pub returns-in-Err-clause-one : goal.returns-in-Err-clause-one
returns-in-Err-clause-one g c = one-refused-so _ _ _ _ c.in-Err.refusal _ _ c.end_of.ensures c.in-Err.ensures.only
    c.end-in-Err.ensures.ended
    c.in-Err.ensures.counts

pub returns-in-Ok-Done-clause-obeyed : goal.returns-in-Ok-Done-clause-obeyed
returns-in-Ok-Done-clause-obeyed g c = obeyed-ended _ _ _ _ _ _ _ _ _ refl c.end.ensures.ended c.in-Ok-Done.ensures.goes.obeyed

pub returns-in-Err-clause-obeyed : goal.returns-in-Err-clause-obeyed
returns-in-Err-clause-obeyed g c = obeyed-refused _ _ _ _ _ c.in-Err.refusal _ _ _ _ c.end_of.ensures c.in-Err.ensures.only
    c.end-in-Err.ensures.ended c.in-Err.ensures.goes.obeyed
