use Rattle.std.proofs.Common.{◌≡◌, Bool, true, drop}
use Rattle.epl_syntax.specs.declared.tree.Name.{Name}
use Rattle.epl_syntax.specs.Bindings.{Sort}
use Rattle.epl_syntax.specs.Tree.{type_tree}
use Rattle.epl_run.specs.Blocks.{steps_of, steps_in, block_at}
use Rattle.epl_run.specs.Found.{each_in}
use Rattle.epl_run.proofs.block.block_at.Given as goal

abbrev pub invariant-loop-frame : goal.invariant-loop-frame
invariant-loop-frame l = record {
  so_far : block_at (type_tree l.program) (steps_in l.block) (drop l.frame-index l.frames)
      ≡ block_at (type_tree l.program) (steps_of l.body) l.frames;
  each : (test : Sort → Name → Bool) → each_in test l.body ≡ true → each_in test l.block.statements.now ≡ true;
}
