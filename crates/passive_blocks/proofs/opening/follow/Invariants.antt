use Rattle.passive_blocks.proofs.OpeningChains.{Following}
use Rattle.passive_blocks.proofs.opening.follow.Given as goal

abbrev pub invariant-loop : goal.invariant-loop
invariant-loop g l =
    Following g.D.Disk.tells g.D.Disk.obeys (g.D.Disk.told l.fn.disk) (g.D.Disk.told l.disk) (g.D.Disk.counts l.fn.disk)
    (g.D.Disk.counts l.disk) (g.D.Disk.due l.fn.disk) (g.D.Disk.due l.disk) l.fn.table l.table l.fn.value l.block l.counter
