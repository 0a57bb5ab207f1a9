use Rattle.std.proofs.Common.{◌≡◌, IsTrue}
use Rattle.passive_store.specs.Kept.{is_busy}
use Rattle.checkpoint.specs.Asked.{AllOfNode}
use Rattle.history_tests.proofs.checkpoint_tests.run.Given as goal

abbrev pub invariant-loop-place : goal.invariant-loop-place
invariant-loop-place g l = IsTrue (g.St.Store.seen l.store).disk.counts.power
    × (l.worker.begun ≡ is_busy (g.St.Store.seen l.store).work)
    × AllOfNode (g.St.Store.seen l.store).node l.worker.requests.items
    × ((g.St.Store.seen l.store).node ≡ 1)
