use Rattle.std.proofs.Common.{◌∙◌, None, ap, sym}
use Rattle.std.specs.Option.{option_map}
use Rattle.eden_model.specs.Map.{with_item}
use Rattle.active_part.specs.Body.{active_of}
use Rattle.active_part.specs.View.{body_of}
use Rattle.active_part.specs.declared.part.Part.{Part}
use Rattle.journal.specs.Deliveries.{misfit}
use Rattle.plain_calls.specs.View.{call_of}
use Rattle.plain_ejects.specs.View.{eject_of}
use Rattle.plain_sites.proofs.Deliveries.{busy-as, fit-as}
use Rattle.plain_sites.proofs.messages.refusal_by.Goals as goal

pub returns-then-is_full : goal.returns-then-is_full
returns-then-is_full c there = busy-as (call_of c.args.call.now) (eject_of c.args.types.now c.args.eject.now) c.is_full.result there
    (c.is_full.ensures.full c.args.types.now) c.if-is_full.true

pub returns-in-Some : goal.returns-in-Some
returns-in-Some c there = fit-as (call_of c.args.call.now) (eject_of c.args.types.now c.args.eject.now) c.is_full.result _ there
    (c.is_full.ensures.full c.args.types.now) c.if-is_full.false
    (c.misfit_at.ensures ∙ ap (λ o. with_item (option_map (λ (p : Part). active_of (body_of c.args.types.now p)) o)
    (λ it. misfit it.kind (call_of c.args.call.now)) None) (sym c.in-Some.is))

pub returns-in-None : goal.returns-in-None
returns-in-None c there = fit-as (call_of c.args.call.now) (eject_of c.args.types.now c.args.eject.now) c.is_full.result None there
    (c.is_full.ensures.full c.args.types.now) c.if-is_full.false
    (ap (λ o. with_item (option_map (λ (p : Part). active_of (body_of c.args.types.now p)) o)
    (λ it. misfit it.kind (call_of c.args.call.now)) None) (sym c.in-None.is))
