use Rattle.std.proofs.Common.{IsTrue}
use Rattle.passive_store.specs.Kept.{is_busy}
use Rattle.store_tests.proofs.changes.make_part.Given as goal

abbrev pub invariant-loop : goal.invariant-loop
invariant-loop g l = IsTrue (g.St.Store.seen l.store).disk.counts.power × IsTrue (is_busy (g.St.Store.seen l.store).work)
