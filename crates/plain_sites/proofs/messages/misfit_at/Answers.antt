use Rattle.std.proofs.Common.{◌≡◌, ◌∙◌, Ok, Err, ap, sym}
use Rattle.edentypes.specs.View.{fit_in, result_of}
use Rattle.active_part.specs.View.{body_of}
use Rattle.plain_calls.specs.View.{call_of}
use Rattle.plain_sites.proofs.Deliveries.{fits-class, misfits-why}
use Rattle.plain_sites.proofs.messages.misfit_at.Goals as goal

pub returns-in-Fits : goal.returns-in-Fits
returns-in-Fits c =
    let x = call_of c.args.call.now in
    let is : Ok c.in-Fits.class ≡ fit_in (body_of c.args.types.now c.args.part.now).kind x.target.rights x.operation x.args =
    ap result_of (sym c.in-Fits.is) ∙ (c.fit_call.ensures
    ∙ ap (λ t. fit_in t x.target.rights x.operation x.args) (c.kind.ensures c.args.types.now)) in
    sym (fits-class (body_of c.args.types.now c.args.part.now).kind x c.in-Fits.class is).0

pub returns-in-Misfits : goal.returns-in-Misfits
returns-in-Misfits c =
    let x = call_of c.args.call.now in
    let is : Err c.in-Misfits.status ≡ fit_in (body_of c.args.types.now c.args.part.now).kind x.target.rights x.operation x.args =
    ap result_of (sym c.in-Misfits.is) ∙ (c.fit_call.ensures
    ∙ ap (λ t. fit_in t x.target.rights x.operation x.args) (c.kind.ensures c.args.types.now)) in
    sym (misfits-why (body_of c.args.types.now c.args.part.now).kind x c.in-Misfits.status is)
