use Rattle.std.proofs.Common.{◌≡◌, drop}
use Rattle.std.specs.List.{filter}
use Rattle.eden_model.specs.Map.{first}
use Rattle.plain_calls.specs.Changes.{goes_number}
use Rattle.plain_calls.proofs.transit.first_between.Given as goal

-- no message so far goes there
abbrev pub invariant-loop-number : goal.invariant-loop-number
invariant-loop-number l = first (filter (goes_number l.fn.a l.fn.b l.fn.calls) (drop l.number-index l.fn.transit))
    ≡ first (filter (goes_number l.fn.a l.fn.b l.fn.calls) l.fn.transit)
