use Rattle.std.proofs.Common.{◌≡◌, map, take}
use Rattle.epl_syntax.specs.Tree.{type_tree}
use Rattle.epl_syntax.specs.Turns.{process_left}
use Rattle.epl_run.specs.Blocks.{left_of}
use Rattle.epl_run.proofs.beginning.processes.Given as goal

abbrev pub invariant-loop-at : goal.invariant-loop-at
invariant-loop-at l = map (left_of (type_tree l.program)) l.begun.items ≡ map process_left (take l.at (type_tree l.program).processes)
