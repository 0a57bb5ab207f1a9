use Rattle.passive_blocks.proofs.Moving.{MovingHeads}
use Rattle.passive_store.specs.Seen.{disk_seen}
use Rattle.passive_blocks.proofs.convert.move_heads.Given as goal

abbrev pub invariant-loop-block : goal.invariant-loop-block
invariant-loop-block g l =
    MovingHeads g.D.Disk.tells g.D.Disk.obeys l.block (disk_seen g.D.Disk.counts g.D.Disk.told g.D.Disk.due l.initial.disk)
    (disk_seen g.D.Disk.counts g.D.Disk.told g.D.Disk.due l.disk)
