use Rattle.std.specs.Map.Iter.{deref_pair}
use Rattle.std.proofs.Common.{map}
use Rattle.block_tables.proofs.Ordered.{keeps_eject, NonePasses}
use Rattle.block_tables.proofs.table.Table.after.Given as goal

abbrev pub invariant-loop-uid : goal.invariant-loop-uid
invariant-loop-uid l = NonePasses (keeps_eject l.self.heads.slots.items l.node) (map deref_pair l.yielded)
