use Rattle.std.proofs.Common.{◌≡◌, Some, ◌∙◌, ap, subst}
use Rattle.std.proofs.lemmas.Result.{IfOk-weaker}
use Rattle.invocation.specs.Carries.{CarriesDelivery}
use Rattle.invocation.specs.declared.call.Delivery.TheVariants.{Request, Reply}
use Rattle.std.proofs.lemmas.Result.{on_ok_weaker}
use Rattle.ejects.proofs.Counting.{any-on_ok, delivered-none}
use Rattle.ejects.proofs.Ejects.deliver.Goals as goal

pub returns-in-Some-Request-clause-steps : goal.returns-in-Some-Request-clause-steps
returns-in-Some-Request-clause-steps c = IfOk-weaker c.request.result _ _ (λ e steps reach s sound at.
    let is : c.deliver.result ≡ Some (Request c.in-Some-Request.call) =
    c.in-Some-Request.is ∙ ap (λ d. Some d) c.in-Some-Request.field-0-is in
    steps reach s at.parts (subst (λ o. CarriesDelivery c.args.from c.args.self.now.table.node o c.deliver.new.self s.traffic) is
    (subst (λ k. CarriesDelivery c.args.from k c.deliver.result c.deliver.new.self s.traffic) c.number.ensures.value
    (c.deliver.ensures.model s.traffic at.calls)))) c.request.ensures.steps

pub returns-in-Some-clause-steps : goal.returns-in-Some-clause-steps
returns-in-Some-clause-steps c = IfOk-weaker c.hear.result _ _ (λ e steps reach s sound at.
    let r = c.in-Some-Reply in
    let is : c.deliver.result ≡ Some (Reply r.call r.status r.results r.was_open (Some c.in-Some.asker)) =
    r.is ∙ ap (λ d. Some d) r.field-0-is ∙ ap (λ o. Some (Reply r.call r.status r.results r.was_open o)) c.in-Some.is in
    steps c.args.types.now reach c.deliver.new.self s sound at.parts
    (subst (λ o. CarriesDelivery c.args.from c.args.self.now.table.node o c.deliver.new.self s.traffic) is
    (subst (λ k. CarriesDelivery c.args.from k c.deliver.result c.deliver.new.self s.traffic) c.number.ensures.value
    (c.deliver.ensures.model s.traffic at.calls)))) c.hear.ensures.steps

pub returns-in-Some-Request-clause-asks : goal.returns-in-Some-Request-clause-asks
returns-in-Some-Request-clause-asks c = on_ok_weaker c.request.result
    (λ none. none ∙ delivered-none c.args.from c.number.result c.args.calls.now c.deliver.result c.deliver.new.self c.deliver.ensures.first)
    c.request.ensures.asks

pub returns-in-Some-clause-asks : goal.returns-in-Some-clause-asks
returns-in-Some-clause-asks c = any-on_ok c.hear.result
    (delivered-none c.args.from c.number.result c.args.calls.now c.deliver.result c.deliver.new.self c.deliver.ensures.first)
