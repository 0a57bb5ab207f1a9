use Rattle.std.proofs.Common.{◌≡◌, ◌++◌, drop}
use Rattle.mistakes.specs.Words.{shown}
use Rattle.mistakes.proofs.text.add_shown.Given as goal

abbrev pub invariant-loop-b : goal.invariant-loop-b
invariant-loop-b l = l.out.items ++ shown (drop l.b-index l.line) ≡ l.fn.out.items ++ shown l.line
