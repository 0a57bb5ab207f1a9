use Rattle.std.proofs.Common.{◌≡◌, ◌++◌, drop}
use Rattle.journal.specs.Lines.{broken_text}
use Rattle.journal.proofs.lines.add_broken.Given as goal

abbrev pub invariant-loop-name : goal.invariant-loop-name
invariant-loop-name l = l.out.items ++ broken_text (drop l.name-index l.names) ≡ l.fn.out.items ++ broken_text l.names
