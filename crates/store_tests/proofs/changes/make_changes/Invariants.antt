use Rattle.std.proofs.Common.{◌≡◌, IsTrue}
use Rattle.passive_store.specs.Kept.{Idle}
use Rattle.store_tests.proofs.changes.make_changes.Given as goal

abbrev pub invariant-loop-number : goal.invariant-loop-number
invariant-loop-number g l =
    IsTrue (g.St.Store.seen l.store).disk.counts.power × ((g.St.Store.seen l.store).work ≡ Idle) × ((g.St.Store.seen l.store).node ≡ 1)
