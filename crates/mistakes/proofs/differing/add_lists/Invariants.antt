use Rattle.std.proofs.Common.{◌≡◌, ◌++◌}
use Rattle.mistakes.specs.Words.{lists_text}
use Rattle.mistakes.proofs.differing.add_lists.Given as goal

abbrev pub invariant-loop : goal.invariant-loop
invariant-loop l = l.out.items ≡ l.fn.out.items ++ lists_text l.counter
