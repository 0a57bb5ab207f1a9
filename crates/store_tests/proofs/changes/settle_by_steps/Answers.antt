use Rattle.passive_store.proofs.Changing.{idle_then}
use Rattle.store_tests.proofs.changes.settle_by_steps.Goals as goal

pub returns-clause-idle : goal.returns-clause-idle
returns-clause-idle g c = idle_then _ _ _ c.requires.idle c.in_ok-settle_whole.ensures.picked c.in_ok-settle_whole.ensures.work
