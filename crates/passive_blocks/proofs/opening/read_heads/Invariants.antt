use Rattle.passive_blocks.proofs.OpeningReads.{ReadingHeads}
use Rattle.passive_blocks.proofs.opening.read_heads.Given as goal

abbrev pub invariant-loop-number : goal.invariant-loop-number
invariant-loop-number g l =
    ReadingHeads g.D.Disk.tells g.D.Disk.obeys l.node l.size l.number (g.D.Disk.told l.fn.disk) (g.D.Disk.told l.disk)
    (g.D.Disk.counts l.fn.disk) (g.D.Disk.counts l.disk) (g.D.Disk.due l.fn.disk) (g.D.Disk.due l.disk) l.table l.sequences.keys
