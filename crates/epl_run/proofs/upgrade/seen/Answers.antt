use Rattle.std.proofs.Common.{map, ap, ◌∙◌}
use Rattle.eden_value.specs.View.{datum}
use Rattle.epl_syntax.specs.Tree.{type_tree}
use Rattle.epl_syntax.specs.Upgrades.{before_upgrade}
use Rattle.epl_run.proofs.UpgradeLaws.{seen}
use Rattle.epl_run.proofs.upgrade.seen.Goals as goal

pub returns-clause-seen : goal.returns-clause-seen
returns-clause-seen c u there =
    let t = type_tree c.args.program.now in
    seen t c.args.at u c.in_ok-params.params c.in_ok-vars.vars (map datum c.new.result.items) c.args.me there c.in_ok-vars.ensures
    ∙ ap (λ ds. before_upgrade t u ds c.args.me) c.in_ok-params.ensures
