use Rattle.passive_store.specs.Seen.{disk_seen}
use Rattle.passive_blocks.proofs.CopyingValues.{CopyingValues}
use Rattle.passive_blocks.proofs.convert.copy_values.Given as goal

abbrev pub invariant-loop-value : goal.invariant-loop-value
invariant-loop-value g l =
    CopyingValues g.D.Disk.tells g.D.Disk.obeys l.moved.items l.value-index
    (disk_seen g.D.Disk.counts g.D.Disk.told g.D.Disk.due l.fn.disk) (disk_seen g.D.Disk.counts g.D.Disk.told g.D.Disk.due l.disk)
