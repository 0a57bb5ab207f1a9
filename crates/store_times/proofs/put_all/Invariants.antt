use Rattle.std.proofs.Common.{◌≡◌, IsTrue}
use Rattle.passive_store.specs.Kept.{Idle}
use Rattle.store_times.proofs.put_all.Given as goal

abbrev pub invariant-loop : goal.invariant-loop
invariant-loop g l =
    IsTrue (g.St.Store.seen l.store).disk.counts.power × ((g.St.Store.seen l.store).work ≡ Idle) × ((g.St.Store.seen l.store).node ≡ 1)
