use Rattle.std.proofs.Common.{sym, ◌∙◌}
use Rattle.eden_value.specs.Shape.{shape}
use Rattle.epl_run.proofs.UpgradeLaws.{none_left}
use Rattle.epl_run.proofs.upgrade.are_fit.Goals as goal

pub returns : goal.returns
returns c =
    c.is_empty.ensures
    ∙ sym (none_left c.loop-param.rest.now (λ p. shape p.kind.kind) c.args.params.now c.loop-param.param-index c.loop-param-test.false)
    ∙ c.loop-param.invariant
