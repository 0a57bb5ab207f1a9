use Rattle.std.proofs.Common.{◌≡◌, ◌≤◌, length, nat_lt, refl, sym, ap, ◌∙◌, arith, true, false}
use Rattle.std.proofs.lemmas.Bool.Decides.{nat_tests}
use Rattle.eden_model.specs.Traffic.{asked}
use Rattle.edentypes.specs.View.{fit_in, result_of}
use Rattle.ejects.specs.View.{call_at_place}
use Rattle.active_part.specs.View.{body_of}
use Rattle.ejects.proofs.Admitting.{fits-class, misfits-why, few-full}
use Rattle.ejects.proofs.requests.admission_at.Goals as goal

pub returns-then-is_full : goal.returns-then-is_full
returns-then-is_full c =
    let more : 64 ≤ length (body_of c.args.types.now c.args.part.now).crew.queued = (c.is_full.ensures c.args.types.now).0
    c.if-is_full.true in
    let lt : nat_lt (length (body_of c.args.types.now c.args.part.now).crew.queued) 64 ≡ false = grind (arith, nat_tests, more) in
    rw lt refl

pub returns-in-Fits : goal.returns-in-Fits
returns-in-Fits c =
    let x = c.args.asked.now in
    let few = few-full c.is_full.result (length (body_of c.args.types.now c.args.part.now).crew.queued)
    (c.is_full.ensures c.args.types.now).1 c.if-is_full.false in
    let is = ap result_of (sym c.in-Fits.is) ∙ c.fit_call-fit.ensures ∙ ap (λ k. fit_in k x.target.rights x.operation x.args)
    (c.kind.ensures c.args.types.now) in
    let fits = fits-class (body_of c.args.types.now c.args.part.now).kind (call_at_place asked x) c.in-Fits.class is in
    (few, fits.0, fits.1)

pub returns-in-Misfits : goal.returns-in-Misfits
returns-in-Misfits c =
    let x = c.args.asked.now in
    let few = few-full c.is_full.result (length (body_of c.args.types.now c.args.part.now).crew.queued)
    (c.is_full.ensures c.args.types.now).1 c.if-is_full.false in
    let lt : nat_lt (length (body_of c.args.types.now c.args.part.now).crew.queued) 64 ≡ true = grind (arith, nat_tests, few) in
    let is = ap result_of (sym c.in-Misfits.is) ∙ c.fit_call-fit.ensures ∙ ap (λ k. fit_in k x.target.rights x.operation x.args)
    (c.kind.ensures c.args.types.now) in
    rw lt (misfits-why (body_of c.args.types.now c.args.part.now).kind (call_at_place asked x) c.in-Misfits.status is)
