use Rattle.std.proofs.Common.{◌≡◌, ◌++◌, false, length, map}
use Rattle.std.specs.List.{AllByRecursion}
use Rattle.epl_syntax.specs.Edentype.{declared as declared_type}
use Rattle.epl_syntax.specs.Tree.{type_tree}
use Rattle.edentypes.specs.Fitting.{is_directory_rest}
use Rattle.edentypes.specs.View.{rest_of}
use Rattle.edentypes.proofs.ProcessLists.{meant_of}
use Rattle.edentypes.proofs.beginning.declared_processes.Given as goal

abbrev pub invariant-loop-rest : goal.invariant-loop-rest
invariant-loop-rest l = record {
  begin : meant_of (type_tree l.program) l.left.items ++ map (rest_of (declared_type (type_tree l.program))) l.found.items
      ≡ meant_of (type_tree l.program) l.initial.left.items;
  fit : AllByRecursion (λ r. is_directory_rest r ≡ false) l.found.items;
}

abbrev pub decreases-loop-rest : goal.decreases-loop-rest
decreases-loop-rest l = length l.left.items
