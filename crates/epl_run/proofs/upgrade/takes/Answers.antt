use Rattle.std.proofs.Common.{ap, ◌∙◌}
use Rattle.eden_value.specs.View.{datums}
use Rattle.epl_run.proofs.UpgradeLaws.{takes_is}
use Rattle.epl_run.proofs.upgrade.takes.Goals as goal

pub returns-then-upgrade-from : goal.returns-then-upgrade-from
returns-then-upgrade-from c =
    c.are_fit.ensures
    ∙ takes_is c.args.upgrade.now c.args.version c.deref.result.now c.args.values.now c.deref-then-upgrade-from.result.now
    (c.if-upgrade-from.true ∙ c.from.ensures) (ap datums c.deref.ensures.value ∙ c.values.view_is) c.deref-then-upgrade-from.ensures.value
