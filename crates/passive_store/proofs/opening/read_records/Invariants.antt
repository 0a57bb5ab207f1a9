use Rattle.std.proofs.Common.{◌-◌}
use Rattle.passive_store.proofs.Walking.{Walking}
use Rattle.passive_store.proofs.opening.read_records.Given as goal

abbrev pub invariant-loop-index : goal.invariant-loop-index
invariant-loop-index g l =
    Walking g.D.Disk.tells g.D.Disk.obeys l.node l.size l.tail (g.D.Disk.told l.fn.disk) (g.D.Disk.told l.disk)
    (g.D.Disk.counts l.fn.disk) (g.D.Disk.counts l.disk) (g.D.Disk.due l.fn.disk) (g.D.Disk.due l.disk) l.index

abbrev pub decreases-loop-index : goal.decreases-loop-index
decreases-loop-index g l = l.size - l.tail
