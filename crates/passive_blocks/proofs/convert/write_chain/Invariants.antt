use Rattle.passive_store.specs.Seen.{disk_seen}
use Rattle.passive_blocks.proofs.Copying.{Chaining}
use Rattle.passive_blocks.proofs.convert.write_chain.Given as goal

abbrev pub invariant-loop-block : goal.invariant-loop-block
invariant-loop-block g l =
    Chaining g.D.Disk.tells g.D.Disk.obeys l.first l.body l.block l.from (disk_seen g.D.Disk.counts g.D.Disk.told g.D.Disk.due l.fn.disk)
    (disk_seen g.D.Disk.counts g.D.Disk.told g.D.Disk.due l.disk)
