use Rattle.std.proofs.Common.{refl, ap}
use Rattle.std.specs.FinMap.{get}
use Rattle.epl_syntax.specs.Rules.OfTypes.{native_only}
use Rattle.active_part.specs.declared.part.Part.{Part}
use Rattle.eject_table.specs.Table.{Table}
use Rattle.ejects.proofs.Noting.{standing-noted, asleep-passive}
use Rattle.ejects.proofs.Ejects.note.Goals as goal

pub returns : goal.returns
returns c ts = record {
  node = record {
    number = ap (λ (t : Table Part). t.node) c.in_ok-note_passive.ensures;
    types = refl;
    epoch = ap (λ (t : Table Part). t.epoch) c.in_ok-note_passive.ensures;
    last_serial = ap (λ (t : Table Part). t.last_serial) c.in_ok-note_passive.ensures;
  };
  standing = λ v. standing-noted ts c.args.self.now.table c.note_passive.new.self c.args.uid v c.in_ok-note_passive.ensures;
  waiting = refl;
}

pub note_passive-requires : goal.note_passive-requires
note_passive-requires c = asleep-passive native_only (get c.args.self.now.table.standings c.args.uid) (c.requires native_only)
