use Rattle.std.proofs.Common.{◌≡◌, drop}
use Rattle.std.specs.List.{list_all}
use Rattle.eden_value.specs.Limits.{is_printable}
use Rattle.eden_value.proofs.limits.are_printable.Given as goal

abbrev pub invariant-loop-b : goal.invariant-loop-b
invariant-loop-b l = list_all is_printable (drop l.b-index l.bytes) ≡ list_all is_printable l.bytes
