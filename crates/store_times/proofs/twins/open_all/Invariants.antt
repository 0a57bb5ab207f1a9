use Rattle.std.proofs.Common.{IsTrue}
use Rattle.store_times.proofs.twins.open_all.Given as goal

abbrev pub invariant-loop : goal.invariant-loop
invariant-loop g l = IsTrue (g.St.Device.Disk.counts l.pair.0).power × IsTrue (g.St.Device.Disk.counts l.pair.1).power
