use Rattle.std.proofs.Common.{◌≡◌, ◌<◌, ℕ, []}
use Rattle.invocation.specs.Queues.{row}
use Rattle.invocation.proofs.queues.is_any_to.Given as goal

-- none is on its way from the stations so far
abbrev pub invariant-loop-from : goal.invariant-loop-from
invariant-loop-from l = (n : ℕ) → n < l.from → row n l.to l.queues ≡ []
