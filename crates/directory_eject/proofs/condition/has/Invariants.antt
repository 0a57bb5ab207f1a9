use Rattle.std.proofs.Common.{◌≡◌, drop}
use Rattle.std.specs.List.{list_any}
use Rattle.eden_value.specs.View.{datum, datums}
use Rattle.epl_syntax.specs.Same.{same}
use Rattle.directory_eject.proofs.condition.has.Given as goal

abbrev pub invariant-loop-other : goal.invariant-loop-other
invariant-loop-other l =
    list_any (same (datum l.value)) (datums (drop l.other-index l.values)) ≡ list_any (same (datum l.value)) (datums l.values)
