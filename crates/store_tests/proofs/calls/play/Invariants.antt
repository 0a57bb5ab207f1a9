use Rattle.std.proofs.Common.{◌≡◌, IsTrue}
use Rattle.passive_store.specs.Kept.{Idle}
use Rattle.store_tests.proofs.calls.play.Given as goal

abbrev pub invariant-loop-row : goal.invariant-loop-row
invariant-loop-row g l =
    IsTrue (g.St.Store.seen l.store).disk.counts.power × ((g.St.Store.seen l.store).work ≡ Idle) × ((g.St.Store.seen l.store).node ≡ 1)
