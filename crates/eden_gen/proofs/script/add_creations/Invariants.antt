use Rattle.std.proofs.Common.{◌≡◌, ◌≤◌, ◌+◌, ◌*◌, ◌++◌, length}
use Rattle.eden_gen.specs.Generated.{creations_text}
use Rattle.eden_gen.proofs.script.add_creations.Given as goal

abbrev pub invariant-loop-behind : goal.invariant-loop-behind
invariant-loop-behind l = record {
  text : l.out.items ≡ l.fn.out.items ++ creations_text l.behind;
  short : length l.out.items ≤ length l.fn.out.items + l.behind * 60;
}
