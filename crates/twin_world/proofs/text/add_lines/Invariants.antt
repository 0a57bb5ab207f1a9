use Rattle.std.proofs.Common.{◌≡◌, ◌++◌, drop, map}
use Rattle.twin_world.specs.Texts.{lines_of}
use Rattle.twin_world.specs.View.{entry_of}
use Rattle.twin_world.proofs.text.add_lines.Given as goal

abbrev pub invariant-loop-entry : goal.invariant-loop-entry
invariant-loop-entry l = l.out.items ++ lines_of (map entry_of (drop l.entry-index l.entries)) ≡ l.fn.out.items ++ lines_of
    (map entry_of l.entries)
