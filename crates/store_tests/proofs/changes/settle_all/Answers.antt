use Rattle.passive_store.proofs.Changing.{idle_then}
use Rattle.store_tests.proofs.changes.settle_all.Goals as goal

pub returns-clause-idle : goal.returns-clause-idle
returns-clause-idle g c = idle_then _ _ _ c.requires.idle c.in_ok-settle.ensures.picked c.in_ok-settle.ensures.work
