use Rattle.std.proofs.Common.{ap, sym, ◌∙◌, None, Some}
use Rattle.std.specs.Prelude.{option_copied}
use Rattle.std.specs.List.{find}
use Rattle.eden_model.specs.Map.{same_text}
use Rattle.epl_syntax.specs.Edentype.{declared_operation}
use Rattle.epl_syntax.specs.Tree.{operation}
use Rattle.edentypes.specs.View.{fit_of}
use Rattle.edentypes.proofs.Outlines.{fit_is}
use Rattle.edentypes.proofs.operations.declared_fit.Goals as goal

pub returns-in-None : goal.returns-in-None
returns-in-None c =
    c.misfit.ensures
    ∙ fit_is c.args.program.now c.args.rights c.args.name.now c.args.args.now None
    (sym (ap (λ o. option_copied o) c.in-None.is) ∙ c.declared_operation.ensures
    ∙ ap (find (λ o. same_text o.name.text c.args.name.now)) c.deref.ensures.value)

pub returns-in-Some : goal.returns-in-Some
returns-in-Some c =
    let asked = c.in-Some.asked.now in
    c.operation_fit.ensures
    ∙ ap (λ cs. fit_of c.args.rights c.args.args.now (declared_operation cs (operation asked))) c.deref-in-Some.ensures.value
    ∙ fit_is c.args.program.now c.args.rights c.args.name.now c.args.args.now (Some asked)
    (sym (ap (λ o. option_copied o) c.in-Some.is) ∙ c.declared_operation.ensures
    ∙ ap (find (λ o. same_text o.name.text c.args.name.now)) c.deref.ensures.value)
