use Rattle.eject_table.proofs.Entries.{map-len}
use Rattle.eject_table.proofs.EjectTable.count.Goals as goal

pub returns : goal.returns
returns g c = rw (← c.self.view_is, map-len c.self.inside.active c.self.inside.places.entries c.self.invariant.whole, ← c.len.ensures.len)
    c.min.ensures
