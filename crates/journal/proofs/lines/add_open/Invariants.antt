use Rattle.std.proofs.Common.{◌≡◌, ◌++◌, drop}
use Rattle.journal.specs.Lines.{open_text}
use Rattle.journal.proofs.lines.add_open.Given as goal

abbrev pub invariant-loop-name : goal.invariant-loop-name
invariant-loop-name l = l.out.items ++ open_text (drop l.name-index l.names) ≡ l.fn.out.items ++ open_text l.names
