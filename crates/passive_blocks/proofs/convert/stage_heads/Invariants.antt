use Rattle.passive_blocks.proofs.Moving.{Staging}
use Rattle.passive_blocks.specs.Converting.{heads_planned}
use Rattle.passive_store.specs.Seen.{disk_seen}
use Rattle.passive_blocks.proofs.convert.stage_heads.Given as goal

abbrev pub invariant-loop-block : goal.invariant-loop-block
invariant-loop-block g l =
    Staging g.D.Disk.tells g.D.Disk.obeys (heads_planned l.moved.items) l.block
    (disk_seen g.D.Disk.counts g.D.Disk.told g.D.Disk.due l.fn.disk) (disk_seen g.D.Disk.counts g.D.Disk.told g.D.Disk.due l.disk)
