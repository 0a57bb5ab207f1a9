use Rattle.passive_store.specs.Kept.{calls_left}
use Rattle.passive_store.specs.LogLayout.{log_layout}
use Rattle.passive_store.specs.LogState.{log_seen}
use Rattle.passive_store.proofs.Joining.{Underway}
use Rattle.passive_store.proofs.log_store.LogStore.finish_job.Given as goal

abbrev pub invariant-loop : goal.invariant-loop
invariant-loop g l =
    let seen = log_seen g.D.Disk.counts g.D.Disk.told g.D.Disk.due in
    Underway g.D.Disk.tells g.D.Disk.obeys log_layout (seen l.fn.self) (seen l.self)

abbrev pub decreases-loop : goal.decreases-loop
decreases-loop g l = calls_left l.self.work
