use Rattle.std.proofs.Common.{◌≡◌, IsTrue}
use Rattle.passive_store.specs.Kept.{Idle}
use Rattle.store_times.proofs.fill.Given as goal

abbrev pub invariant-loop-at : goal.invariant-loop-at
invariant-loop-at g l =
    IsTrue (g.St.Store.seen l.store).disk.counts.power × ((g.St.Store.seen l.store).work ≡ Idle) × ((g.St.Store.seen l.store).node ≡ 1)
