use Rattle.std.proofs.Common.{ap}
use Rattle.active_part.specs.declared.part.Part.{Part}
use Rattle.eject_table.specs.Table.{Table}
use Rattle.ejects.proofs.Noting.{standing-empty}
use Rattle.ejects.proofs.Ejects.new.Goals as goal

pub returns : goal.returns
returns c ts = record {
  number = ap (λ (t : Table Part). t.node) c.in_ok-table.ensures;
  epoch = ap (λ (t : Table Part). t.epoch) c.in_ok-table.ensures;
  serial = ap (λ (t : Table Part). t.last_serial) c.in_ok-table.ensures;
  standing = λ u. standing-empty ts c.in_ok-table.table c.args.number c.args.epoch 0 u c.in_ok-table.ensures;
  waiting = c.new-2.ensures.empty;
}
