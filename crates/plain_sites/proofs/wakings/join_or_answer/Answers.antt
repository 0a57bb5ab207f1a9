use Rattle.std.proofs.Common.{◌≡◌, ◌∙◌, ◌∷◌, [], Ok, Err, Some, sym, ap, length, length-append, arith}
use Rattle.std.specs.Prelude.{option_copied}
use Rattle.std.specs.Option.{option_map}
use Rattle.eden_model.specs.Traffic.{call_at, replied}
use Rattle.edentypes.specs.View.{fit_in, result_of}
use Rattle.active_part.specs.Body.{Body}
use Rattle.active_part.specs.View.{body_of}
use Rattle.plain_calls.specs.View.{call_of, traffic_of}
use Rattle.plain_sites.proofs.Deliveries.{fits-class, misfits-why, none-of}
use Rattle.plain_sites.proofs.Joins.{joins-fit, joins-misfit, joins-unasked}
use Rattle.plain_sites.proofs.wakings.join_or_answer.Goals as goal

pub returns-in_ok-offer-in-Fits-clause-joins : goal.returns-in_ok-offer-in-Fits-clause-joins
returns-in_ok-offer-in-Fits-clause-joins c =
    let ts = c.args.types.now in
    let b = body_of ts c.args.part.now in
    let t = traffic_of c.args.calls.now in
    let x = call_of c.in-Some.call.now in
    let there : Some x ≡ call_at t c.args.number = sym (ap (λ o. option_map call_of (option_copied o)) c.in-Some.is) ∙ c.call.ensures in
    let is : Ok c.in-Fits.class ≡ fit_in b.kind x.target.rights x.operation x.args =
    ap result_of (sym c.in-Fits.is) ∙ (c.fit_call-fit.ensures
    ∙ ap (λ k. fit_in k x.target.rights x.operation x.args) (c.kind.ensures ts)) in
    let fits = fits-class b.kind x c.in-Fits.class is in
    ap (λ (y : Body). (y, t)) (c.in_ok-offer-in-Fits.ensures.after ts) ∙ joins-fit b t c.args.number x c.in-Fits.class there fits.0 fits.1

pub returns-in_ok-reply-in-Misfits-clause-joins : goal.returns-in_ok-reply-in-Misfits-clause-joins
returns-in_ok-reply-in-Misfits-clause-joins c =
    let ts = c.args.types.now in
    let b = body_of ts c.args.part.now in
    let t = traffic_of c.args.calls.now in
    let x = call_of c.in-Some.call.now in
    let there : Some x ≡ call_at t c.args.number = sym (ap (λ o. option_map call_of (option_copied o)) c.in-Some.is) ∙ c.call.ensures in
    let is : Err c.in-Misfits.status ≡ fit_in b.kind x.target.rights x.operation x.args =
    ap result_of (sym c.in-Misfits.is) ∙ (c.fit_call-fit.ensures
    ∙ ap (λ k. fit_in k x.target.rights x.operation x.args) (c.kind.ensures ts)) in
    joins-misfit b t _ c.args.number x c.in-Misfits.status there (misfits-why b.kind x c.in-Misfits.status is)
    (c.in_ok-reply-in-Misfits.ensures ∙ ap (λ rs. replied c.in-Misfits.status rs c.args.number t) c.no_items.ensures)

pub returns-in_default-clause-joins : goal.returns-in_default-clause-joins
returns-in_default-clause-joins c = joins-unasked (body_of c.args.types.now c.args.part.now) (traffic_of c.args.calls.now) c.args.number
    (sym (ap (λ o. option_map call_of (option_copied o)) (none-of c.call.result c.in_default.not-Some)) ∙ c.call.ensures)

pub returns-in_ok-offer-in-Fits-clause-one : goal.returns-in_ok-offer-in-Fits-clause-one
returns-in_ok-offer-in-Fits-clause-one c =
    let ts = c.args.types.now in
    let old = (body_of ts c.args.part.now).crew.queued in
    let more = ap (λ (b : Body). length b.crew.queued) (c.in_ok-offer-in-Fits.ensures.after ts) in
    omega (arith, more, length-append old (record { call = c.args.number; class = c.in-Fits.class } ∷ []))
