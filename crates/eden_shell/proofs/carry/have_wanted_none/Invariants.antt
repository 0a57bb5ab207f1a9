use Rattle.std.proofs.Common.{◌≡◌, map, take}
use Rattle.eden_shell.proofs.carry.have_wanted_none.Given as goal

abbrev pub invariant-loop-at : goal.invariant-loop-at
invariant-loop-at g l = map (λ d. (g.D.Disk.counts d).wants) (take l.at l.disks) ≡ take l.at l.wants
