use Rattle.std.proofs.Common.{◌∙◌, ◌∷◌, [], sym, ap, subst, length, length-append, arith}
use Rattle.edentypes.specs.View.{fit_in, result_of}
use Rattle.eden_model.specs.Traffic.{replied}
use Rattle.invocation.specs.Carries.{Carries}
use Rattle.active_part.specs.Body.{Body}
use Rattle.active_part.specs.View.{body_of}
use Rattle.ejects.proofs.Joining.{joins-fit, joins-misfit, joins-unasked}
use Rattle.ejects.proofs.activations.join_or_answer.Goals as goal

pub returns-in_ok-offer-in-Fits-clause-joins : goal.returns-in_ok-offer-in-Fits-clause-joins
returns-in_ok-offer-in-Fits-clause-joins c =
    let ts = c.args.types.now in
    let x = c.in-Some.asked.now in
    let fits = ap result_of (sym c.in-Fits.is) ∙ c.fit_call-fit.ensures ∙ ap (λ k. fit_in k x.target.rights x.operation x.args)
    (c.kind.ensures ts) in
    joins-fit (body_of ts c.args.part.now) c.args.number x c.args.calls.now (sym c.in-Some.ensures) (body_of ts c.offer.new.self)
    c.in-Fits.class fits (c.in_ok-offer-in-Fits.ensures.after ts)

pub returns-in_ok-reply-in-Misfits-clause-joins : goal.returns-in_ok-reply-in-Misfits-clause-joins
returns-in_ok-reply-in-Misfits-clause-joins c =
    let ts = c.args.types.now in
    let x = c.in-Some.asked.now in
    let misfits = ap result_of (sym c.in-Misfits.is) ∙ c.fit_call-fit.ensures ∙ ap (λ k. fit_in k x.target.rights x.operation x.args)
    (c.kind.ensures ts) in
    joins-misfit (body_of ts c.args.part.now) c.args.number x c.args.calls.now (sym c.in-Some.ensures) c.reply.new.calls c.in-Misfits.status
    misfits (λ t carries out. subst (λ rs. Carries c.reply.new.calls (replied c.in-Misfits.status rs c.args.number t)) c.no_items.ensures
    (c.in_ok-reply-in-Misfits.ensures.model t carries out))

pub returns-in_default-clause-joins : goal.returns-in_default-clause-joins
returns-in_default-clause-joins c = joins-unasked (body_of c.args.types.now c.args.part.now) c.args.number c.args.calls.now c.in_default.ensures

pub returns-in_ok-offer-in-Fits-clause-one : goal.returns-in_ok-offer-in-Fits-clause-one
returns-in_ok-offer-in-Fits-clause-one c =
    let ts = c.args.types.now in
    let old = (body_of ts c.args.part.now).crew.queued in
    let more = ap (λ (b : Body). length b.crew.queued) (c.in_ok-offer-in-Fits.ensures.after ts) in
    omega (arith, more, length-append old (record { call = c.args.number; class = c.in-Fits.class } ∷ []))
