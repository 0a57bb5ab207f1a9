use Rattle.std.proofs.Common.{◌-◌}
use Rattle.runs.specs.Runs.{KeepsShown, SparesNumbers}
use Rattle.runs.proofs.Walking.{IsWaiting}
use Rattle.runs.proofs.run.Run.wait.Given as goal

abbrev pub invariant-loop : goal.invariant-loop
invariant-loop g l = record {
  waiting : IsWaiting g.M.Machine.stands g.M.Machine.did l.fn.self l.self l.name l.call;
  shown : KeepsShown g.M.Machine.shows l.fn.self l.self;
  asks : SparesNumbers g.M.Machine.asked l.fn.self 0 l.self 0;
  whole : g.M.Machine.whole l.self.machine;
}

abbrev pub decreases-loop : goal.decreases-loop
decreases-loop g l = 100000 - l.self.turns
