use Rattle.std.proofs.Common.{◌≡◌, ℕ, [], length}
use Rattle.invocation.specs.Listed.{numbers_at}
use Rattle.invocation.proofs.lists.empty_lists.Given as goal

abbrev pub invariant-loop-i : goal.invariant-loop-i
invariant-loop-i l = record {
  length : length l.lists.items ≡ l._i;
  none : (p : ℕ) → numbers_at p l.lists.items ≡ [];
}
