use Rattle.history_laws.proofs.LegalRuns.{runs-are-legal, runs-are-legal-so-far}
use Rattle.history_laws.proofs.law.what_makes_a_run_legal.Goals as goal

pub returns : goal.returns
returns c = record { whole = runs-are-legal; so_far = runs-are-legal-so-far }
