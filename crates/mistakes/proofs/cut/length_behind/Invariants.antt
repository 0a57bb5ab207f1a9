use Rattle.std.proofs.Common.{◌≡◌, ◌≤◌, take}
use Rattle.mistakes.specs.Columns.{length_behind}
use Rattle.mistakes.proofs.cut.length_behind.Given as goal

abbrev pub invariant-loop-c : goal.invariant-loop-c
invariant-loop-c l = record {
  so_far : l.count ≡ length_behind l.b (take l.c-index l.bytes);
  small : l.count ≤ l.c-index;
}
