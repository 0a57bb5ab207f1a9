use Rattle.std.proofs.Common.{◌≡◌, IsTrue}
use Rattle.passive_store.specs.Kept.{is_busy}
use Rattle.checkpoint.specs.Asked.{AllOfNode}
use Rattle.history_tests.proofs.checkpoint_tests.step_on.Given as goal

abbrev pub invariant-loop-made : goal.invariant-loop-made
invariant-loop-made g l = IsTrue (g.St.Store.seen l.store).disk.counts.power
    × (l.worker.begun ≡ is_busy (g.St.Store.seen l.store).work)
    × AllOfNode (g.St.Store.seen l.store).node l.worker.requests.items
    × ((g.St.Store.seen l.store).node ≡ (g.St.Store.seen l.initial.store).node)
