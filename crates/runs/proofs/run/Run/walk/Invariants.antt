use Rattle.std.proofs.Common.{◌-◌, drop, length}
use Rattle.runs.specs.Runs.{KeepsShown, SparesNumbers}
use Rattle.journal.specs.Run.{components}
use Rattle.runs.proofs.Walking.{IsLooking}
use Rattle.runs.proofs.run.Run.walk.Given as goal

abbrev pub invariant-loop-part : goal.invariant-loop-part
invariant-loop-part g l = record {
  looking : IsLooking g.M.Machine.stands g.M.Machine.did g.M.Machine.starved l.fn.self l.name l.target l.path l.self l.directory
      (drop l.part-index (components l.path));
  shown : KeepsShown g.M.Machine.shows l.fn.self l.self;
  asks : SparesNumbers g.M.Machine.asked l.fn.self (length (components l.path)) l.self (length (components l.path) - l.part-index);
  whole : g.M.Machine.whole l.self.machine;
}
