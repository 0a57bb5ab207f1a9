use Rattle.std.proofs.Common.{sym, ◌∙◌}
use Rattle.edentypes.proofs.Outlines.{none_kept}
use Rattle.edentypes.proofs.variables.fit_kept.Goals as goal

pub returns : goal.returns
returns g c =
    c.is_empty.ensures
    ∙ sym (none_kept c.loop-var.rest.now g.V.Variable.slot c.args.vars.now c.loop-var.var-index c.loop-var-test.false)
    ∙ c.loop-var.invariant
