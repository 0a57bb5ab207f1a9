use Rattle.std.specs.Map.Iter.{deref_pair}
use Rattle.std.proofs.Common.{map}
use Rattle.passive_store.proofs.Ordered.{has_slot, NonePasses}
use Rattle.passive_store.proofs.index.next_slot.Given as goal

abbrev pub invariant-loop-uid : goal.invariant-loop-uid
invariant-loop-uid l = NonePasses (has_slot l.node) (map deref_pair l.yielded)
