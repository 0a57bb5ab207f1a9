use Rattle.std.proofs.Common.{refl}
use Rattle.eject_table.proofs.Entries.{map-empty}
use Rattle.eject_table.proofs.EjectTable.new.Goals as goal

pub returns : goal.returns
returns g c = rw (c.new-2.ensures.empty, map-empty c.new.result) refl
