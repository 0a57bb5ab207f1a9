use Rattle.std.proofs.Common.{◌≡◌, drop, map, true}
use Rattle.std.specs.List.{list_all}
use Rattle.epl_syntax.specs.Bindings.{variable}
use Rattle.eden_value.specs.View.{datums}
use Rattle.epl_syntax.specs.Tree.{type_tree}
use Rattle.epl_syntax.specs.Memory.{set_each}
use Rattle.epl_values.specs.Variables.{memory, is_found}
use Rattle.epl_run.proofs.answer.set_each.Given as goal

abbrev pub invariant-loop-name : goal.invariant-loop-name
invariant-loop-name l = record {
  so_far : set_each (map (λ n. n.text) (drop l.name-index l.names)) (datums l.values.items) (memory (type_tree l.program) l.vars)
      ≡ set_each (map (λ n. n.text) l.names) l.fn.values (memory (type_tree l.program) l.fn.vars);
  owner : l.vars.owner ≡ l.fn.vars.owner;
  found : list_all (is_found l.program l.vars.owner variable) (drop l.name-index l.names) ≡ true;
}
