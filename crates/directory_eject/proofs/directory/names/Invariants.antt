use Rattle.std.proofs.Common.{◌≡◌, map, take}
use Rattle.eden_value.specs.Datum.{text}
use Rattle.eden_value.specs.View.{datums}
use Rattle.std.specs.Map.{keys_of}
use Rattle.directory_eject.proofs.directory.names.Given as goal

abbrev pub invariant-loop-name : goal.invariant-loop-name
invariant-loop-name l = datums l.made.items ≡ map (λ k. text k.items) (take l.name-index (keys_of l.entries.entries))
