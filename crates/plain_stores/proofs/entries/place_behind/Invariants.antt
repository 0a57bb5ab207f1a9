use Rattle.std.proofs.Common.{◌≡◌, ◌<◌, ℕ, true}
use Rattle.plain_stores.specs.Places.{lesser_at}
use Rattle.plain_stores.specs.declared.entries.PlainEntry.{PlainEntry}
use Rattle.plain_stores.proofs.entries.place_behind.Given as goal

-- those so far have lesser uids
abbrev pub invariant-loop-i : goal.invariant-loop-i
invariant-loop-i l = (k : ℕ) → k < l.i → lesser_at (λ (e : PlainEntry). e.uid) l.fn.uid l.fn.entries k ≡ true
