use Rattle.std.proofs.Common.{IsTrue}
use Rattle.store_times.proofs.open_all.Given as goal

abbrev pub invariant-loop : goal.invariant-loop
invariant-loop g l = IsTrue (g.St.Device.Disk.counts l.disk).power
