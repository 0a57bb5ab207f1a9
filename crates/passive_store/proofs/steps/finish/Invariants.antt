use Rattle.passive_store.specs.Kept.{calls_left}
use Rattle.passive_store.proofs.Joining.{Underway}
use Rattle.passive_store.proofs.steps.finish.Given as goal

abbrev pub invariant-loop : goal.invariant-loop
invariant-loop g l = Underway g.St.Device.Disk.tells g.St.Device.Disk.obeys g.St.Store.layout (g.St.Store.seen l.fn.store)
    (g.St.Store.seen l.store)

abbrev pub decreases-loop : goal.decreases-loop
decreases-loop g l = calls_left (g.St.Store.seen l.store).work
