use Rattle.std.proofs.Common.{◌≡◌, IsTrue}
use Rattle.passive_store.specs.Kept.{Idle}
use Rattle.store_tests.proofs.changes.keeps_all.Given as goal

abbrev pub invariant-loop-uid : goal.invariant-loop-uid
invariant-loop-uid g l = IsTrue (g.St.Store.seen l.store).disk.counts.power × ((g.St.Store.seen l.store).work ≡ Idle)
