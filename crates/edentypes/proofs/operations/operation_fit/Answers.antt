use Rattle.std.proofs.Common.{ap, ◌∙◌, map}
use Rattle.eden_value.specs.Shape.{shape}
use Rattle.eden_value.specs.View.{datums}
use Rattle.epl_syntax.specs.Kinds.{have_shapes}
use Rattle.edentypes.proofs.Outlines.{bad_arguments, fits}
use Rattle.edentypes.proofs.operations.operation_fit.Goals as goal

pub returns-then-not-have_kinds : goal.returns-then-not-have_kinds
returns-then-not-have_kinds c =
    c.misfit-then-not-have_kinds.ensures
    ∙ bad_arguments c.args.classes.now c.args.asked.now c.args.rights c.args.args.now c.is_within.result c.have_kinds.result
    c.is_within.ensures (c.have_kinds.ensures
    ∙ ap (λ vs. have_shapes (datums vs) (map (λ p. shape p.kind.kind) c.deref-2.result.now)) c.deref.ensures.value
    ∙ ap (λ ds. have_shapes ds (map (λ p. shape p.kind.kind) c.deref-2.result.now)) c.args-2.view_is
    ∙ ap (λ ps. have_shapes c.args.args.now (map (λ p. shape p.kind.kind) ps)) c.deref-2.ensures.value)
    c.if-not-is_within.false c.if-not-have_kinds.true

pub returns : goal.returns
returns c =
    fits c.args.classes.now c.args.asked.now c.args.rights c.args.args.now c.is_within.result c.have_kinds.result
    c.is_within.ensures (c.have_kinds.ensures
    ∙ ap (λ vs. have_shapes (datums vs) (map (λ p. shape p.kind.kind) c.deref-2.result.now)) c.deref.ensures.value
    ∙ ap (λ ds. have_shapes ds (map (λ p. shape p.kind.kind) c.deref-2.result.now)) c.args-2.view_is
    ∙ ap (λ ps. have_shapes c.args.args.now (map (λ p. shape p.kind.kind) ps)) c.deref-2.ensures.value)
    c.if-not-is_within.false c.if-not-have_kinds.false c.class_of-class.result c.class_of-class.ensures.place
