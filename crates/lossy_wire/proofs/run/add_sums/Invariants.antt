use Rattle.std.proofs.Common.{◌≡◌, ◌++◌, drop}
use Rattle.lossy_wire.specs.Sums.{held_sums}
use Rattle.lossy_wire.proofs.run.add_sums.Given as goal

abbrev pub invariant-loop-k : goal.invariant-loop-k
invariant-loop-k l = l.out.items ++ held_sums l.k (drop l.k l.ends) ≡ l.initial.out.items ++ held_sums 0 l.ends
