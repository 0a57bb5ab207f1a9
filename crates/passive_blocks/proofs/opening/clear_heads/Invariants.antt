use Rattle.passive_blocks.proofs.OpeningFormat.{Clearing}
use Rattle.passive_blocks.proofs.opening.clear_heads.Given as goal

abbrev pub invariant-loop-index : goal.invariant-loop-index
invariant-loop-index g l =
    Clearing g.D.Disk.tells g.D.Disk.obeys l.size (g.D.Disk.told l.fn.disk) (g.D.Disk.told l.disk) (g.D.Disk.counts l.fn.disk)
    (g.D.Disk.counts l.disk) (g.D.Disk.due l.fn.disk) (g.D.Disk.due l.disk) l.index
