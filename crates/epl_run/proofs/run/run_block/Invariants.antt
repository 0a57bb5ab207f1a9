use Rattle.std.proofs.Common.{◌≡◌, ◌+◌, ◌*◌, ◌++◌, ◌∷◌, ◌≤◌, [], length, Bool, true}
use Rattle.epl_syntax.specs.Tree.{type_tree}
use Rattle.epl_syntax.specs.Turns.{run}
use Rattle.epl_values.specs.Variables.{memory, is_found}
use Rattle.epl_run.specs.Blocks.{steps_of, steps_in, own, block_at, rest_of}
use Rattle.epl_run.specs.Found.{each_in}
use Rattle.epl_run.proofs.run.run_block.Given as goal

abbrev pub invariant-loop-frame : goal.invariant-loop-frame
invariant-loop-frame l = record {
  so_far : (returns : Bool) → run l.left (type_tree l.program) returns (memory (type_tree l.program) l.vars)
      (rest_of (type_tree l.program) (steps_of l.body) (l.frames.items ++ (l.frame ∷ [])))
      ≡ run l.fn.left (type_tree l.program) returns (memory (type_tree l.program) l.fn.vars)
      (rest_of (type_tree l.program) (steps_of l.body) (l.fn.frames.items ++ (l.at.0 ∷ [])));
  block : steps_in l.block ≡ own (type_tree l.program) (block_at (type_tree l.program) (steps_of l.body) l.frames.items) l.frame;
  fewer : 2 * l.left + length l.frames.items ≤ 2 * l.fn.left + length l.fn.frames.items;
  owner : l.vars.owner ≡ l.fn.vars.owner;
  found : each_in (is_found l.program l.vars.owner) l.block.statements.now ≡ true;
}

abbrev pub decreases-loop-frame : goal.decreases-loop-frame
decreases-loop-frame l = l.left
