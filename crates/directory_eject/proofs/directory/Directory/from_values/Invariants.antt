use Rattle.eden_value.specs.View.{datums}
use Rattle.directory_eject.proofs.Stored.{HasFirst}
use Rattle.directory_eject.proofs.directory.Directory.from_values.Given as goal

abbrev pub invariant-loop-i : goal.invariant-loop-i
invariant-loop-i l = HasFirst l.entries.entries l.i (datums l.names) (datums l.held)
