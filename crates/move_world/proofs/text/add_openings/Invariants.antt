use Rattle.std.proofs.Common.{◌≡◌, ◌++◌, drop, map}
use Rattle.move_world.specs.Texts.{opening_lines}
use Rattle.move_world.specs.View.{entry_of}
use Rattle.move_world.proofs.text.add_openings.Given as goal

abbrev pub invariant-loop-entry : goal.invariant-loop-entry
invariant-loop-entry l = l.out.items ++ opening_lines (map entry_of (drop l.entry-index l.entries)) ≡ l.fn.out.items ++ opening_lines (map entry_of l.entries)
