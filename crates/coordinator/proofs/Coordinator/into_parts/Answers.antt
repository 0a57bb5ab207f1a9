use Rattle.std.proofs.Common.{◌∙◌}
use Rattle.coordinator.proofs.Table.{pairs-are}
use Rattle.coordinator.proofs.Coordinator.into_parts.Goals as goal

pub returns-clause-running : goal.returns-clause-running
returns-clause-running c = rw (← c.self.view_is) (c.served_pairs-pairs.ensures ∙ pairs-are c.self.inside.slots.items)

pub returns-clause-queued : goal.returns-clause-queued
returns-clause-queued c = rw (← c.self.view_is) c.into_numbers-numbers.ensures
