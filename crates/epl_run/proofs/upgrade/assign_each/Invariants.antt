use Rattle.std.proofs.Common.{◌≡◌, drop, map, true}
use Rattle.epl_syntax.specs.Tree.{type_tree, change}
use Rattle.epl_syntax.specs.Upgrades.{assigned}
use Rattle.epl_values.specs.Variables.{memory, is_found}
use Rattle.epl_run.specs.Found.{each_change}
use Rattle.epl_run.proofs.upgrade.assign_each.Given as goal

abbrev pub invariant-loop-change : goal.invariant-loop-change
invariant-loop-change l = record {
  so_far : assigned (map change (drop l.change-index l.changes)) (memory (type_tree l.program) l.vars)
      ≡ assigned (map change l.changes) (memory (type_tree l.program) l.fn.vars);
  owner : l.vars.owner ≡ l.fn.vars.owner;
  found : each_change (is_found l.program l.vars.owner) (map change (drop l.change-index l.changes)) ≡ true;
}
