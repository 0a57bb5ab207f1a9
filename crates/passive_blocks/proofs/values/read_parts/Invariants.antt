use Rattle.passive_blocks.proofs.Parts.{Reading}
use Rattle.passive_blocks.proofs.values.read_parts.Given as goal

abbrev pub invariant-loop : goal.invariant-loop
invariant-loop g l =
    Reading g.D.Disk.tells g.D.Disk.obeys (g.D.Disk.told l.fn.disk) (g.D.Disk.told l.disk) (g.D.Disk.counts l.fn.disk)
    (g.D.Disk.counts l.disk) (g.D.Disk.due l.fn.disk) (g.D.Disk.due l.disk) l.table.next.items l.fn.value l.bytes.items l.block l.from
    l.counter
