use Rattle.std.proofs.Common.{◌≤◌, ◌-◌}
use Rattle.runs.specs.Runs.{KeepsShown, SparesNumbers}
use Rattle.runs.proofs.Going.{IsGoing}
use Rattle.runs.proofs.run.Run.go.Given as goal

abbrev pub invariant-loop : goal.invariant-loop
invariant-loop g l = record {
  going : 1 ≤ l.n → IsGoing g.M.Machine.stands g.M.Machine.did l.fn.self l.self l.n (l.n - l.counter);
  shown : KeepsShown g.M.Machine.shows l.fn.self l.self;
  asks : SparesNumbers g.M.Machine.asked l.fn.self 0 l.self 0;
  whole : g.M.Machine.whole l.self.machine;
}
