use Rattle.std.proofs.Common.{◌≡◌, Bool, true, false, IsTrue, sym}
use Rattle.std.specs.Prelude.{Result, Ok}
use Rattle.std.proofs.lemmas.Bool.{false≢true}
use Rattle.passive_store.specs.Kept.{Work, Idle, Busy, Unsettled, is_busy, work_finished}
use Rattle.passive_store.specs.declared.store.StoreRefusal.{StoreRefusal}
use Rattle.store_tests.proofs.changes.finish_job.Goals as goal

idle_behind : (w v : Work) → v ≡ work_finished {T = Unit {0}} w (Ok tt) → IsTrue (is_busy w) → v ≡ Idle
idle_behind Idle v e busy = e
idle_behind (Busy c made left) v e busy = e
idle_behind (Unsettled c synced) v e busy = absurd (false≢true busy)

pub returns-clause-idle : goal.returns-clause-idle
returns-clause-idle g c = idle_behind _ _ c.in_ok-finish.ensures.work c.requires.busy
