use Rattle.std.proofs.Common.{◌≡◌, drop, map, true}
use Rattle.std.specs.List.{list_all}
use Rattle.epl_syntax.specs.Bindings.{variable}
use Rattle.epl_syntax.specs.Kinds.{have_shapes}
use Rattle.epl_syntax.specs.Tree.{type_tree}
use Rattle.epl_syntax.specs.Turns.{kinds_as}
use Rattle.epl_values.specs.Variables.{memory, is_found}
use Rattle.epl_run.proofs.answer.are_fit.Given as goal

abbrev pub invariant-loop-name : goal.invariant-loop-name
invariant-loop-name l = record {
  so_far :
      have_shapes (drop l.next l.results) (kinds_as (memory (type_tree l.program) l.vars) (map (λ n. n.text) (drop l.name-index l.gives)))
      ≡ have_shapes l.results (kinds_as (memory (type_tree l.program) l.vars) (map (λ n. n.text) l.gives));
  found : list_all (is_found l.program l.vars.owner variable) (drop l.name-index l.gives) ≡ true;
}
