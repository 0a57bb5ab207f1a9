use Rattle.std.proofs.Common.{◌≡◌, map, take}
use Rattle.eden_value.specs.Datum.{cap}
use Rattle.eden_value.specs.View.{datums}
use Rattle.std.specs.Map.{values_of}
use Rattle.directory_eject.proofs.directory.held.Given as goal

abbrev pub invariant-loop-cap : goal.invariant-loop-cap
invariant-loop-cap l = datums l.made.items ≡ map cap (take l.cap-index (values_of l.entries.entries))
