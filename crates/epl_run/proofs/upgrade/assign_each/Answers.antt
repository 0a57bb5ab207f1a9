use Rattle.epl_syntax.specs.Tree.{type_tree, change}
use Rattle.epl_syntax.specs.Upgrades.{assigned}
use Rattle.std.proofs.Common.{map}
use Rattle.epl_values.specs.Variables.{memory, is_found}
use Rattle.epl_run.proofs.Found.{value_of_change}
use Rattle.epl_run.proofs.UpgradeLaws.{stopped}
use Rattle.epl_run.proofs.upgrade.assign_each.Goals as goal

pub returns-in-Err-clause-made : goal.returns-in-Err-clause-made
returns-in-Err-clause-made c =
    let t = type_tree c.args.program.now in
    stopped c.in-Err.stop c.args.changes.now c.loop-change.change-index c.change-item.result (memory t c.loop-change.vars)
    (memory t c.assign.new.vars) (assigned (map change c.args.changes.now) (memory t c.args.vars.now)) c.loop-change-test.true
    c.change-item.is
    c.in-Err.ensures.moves c.loop-change.invariant.so_far

pub assign-requires-clause-value : goal.assign-requires-clause-value
assign-requires-clause-value c =
    value_of_change (is_found c.args.program.now c.loop-change.vars.owner) c.args.changes.now c.loop-change.change-index
    c.change-item.result c.loop-change-test.true c.change-item.is c.loop-change.invariant.found
