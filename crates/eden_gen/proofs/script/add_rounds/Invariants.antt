use Rattle.std.proofs.Common.{◌≡◌, ◌≤◌, ◌+◌, ◌*◌, ◌++◌, length}
use Rattle.eden_gen.specs.Generated.{rounds_text, random, draws_before}
use Rattle.eden_gen.proofs.script.add_rounds.Given as goal

abbrev pub invariant-loop-behind : goal.invariant-loop-behind
invariant-loop-behind l = record {
  text : l.out.items ≡ l.fn.out.items ++ rounds_text l.seed l.behind;
  short : length l.out.items ≤ length l.fn.out.items + l.behind * 110;
  draws : l.draws.random ≡ random l.seed (draws_before l.seed l.behind);
}
