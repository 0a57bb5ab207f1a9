use Rattle.std.proofs.Common.{◌≡◌, ◌+◌, ◌*◌, length}
use Rattle.epl_syntax.specs.Tree.{type_tree}
use Rattle.epl_syntax.specs.Turns.{run, budget}
use Rattle.epl_values.specs.Variables.{memory}
use Rattle.epl_run.specs.Blocks.{steps_of, rest_of}
use Rattle.epl_run.proofs.run.run.Given as goal

abbrev pub invariant-loop-frame : goal.invariant-loop-frame
invariant-loop-frame l = record {
  so_far : run l.left (type_tree l.program) l.returns (memory (type_tree l.program) l.vars)
      (rest_of (type_tree l.program) (steps_of l.body) l.frames.items)
      ≡ run budget (type_tree l.program) l.returns (memory (type_tree l.program) l.fn.vars)
      (rest_of (type_tree l.program) (steps_of l.body) l.fn.frames.items);
  owner : l.vars.owner ≡ l.fn.vars.owner;
}

abbrev pub decreases-loop-frame : goal.decreases-loop-frame
decreases-loop-frame l = 2 * l.left + length l.frames.items
