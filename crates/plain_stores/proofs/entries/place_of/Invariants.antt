use Rattle.std.proofs.Common.{◌≡◌, ◌<◌, ℕ, false}
use Rattle.plain_stores.specs.Places.{stands_at}
use Rattle.plain_stores.specs.declared.entries.PlainEntry.{PlainEntry}
use Rattle.plain_stores.proofs.entries.place_of.Given as goal

-- none so far has the uid
abbrev pub invariant-loop-i : goal.invariant-loop-i
invariant-loop-i l = (k : ℕ) → k < l.i → stands_at (λ (e : PlainEntry). e.uid) l.fn.uid l.fn.entries k ≡ false
