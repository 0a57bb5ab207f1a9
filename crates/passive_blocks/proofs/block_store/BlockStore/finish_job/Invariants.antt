use Rattle.passive_store.specs.Kept.{calls_left}
use Rattle.passive_store.proofs.Joining.{Underway}
use Rattle.passive_blocks.specs.BlockLayout.{block_layout}
use Rattle.passive_blocks.specs.StoreState.{block_seen}
use Rattle.passive_blocks.proofs.block_store.BlockStore.finish_job.Given as goal

abbrev pub invariant-loop : goal.invariant-loop
invariant-loop g l =
    let seen = block_seen g.D.Disk.counts g.D.Disk.told g.D.Disk.due in
    Underway g.D.Disk.tells g.D.Disk.obeys block_layout (seen l.fn.self) (seen l.self)

abbrev pub decreases-loop : goal.decreases-loop
decreases-loop g l = calls_left l.self.work
