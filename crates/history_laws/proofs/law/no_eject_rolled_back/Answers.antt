use Rattle.journal.specs.LegalRun.{opening_world}
use Rattle.history_laws.proofs.SafeRuns.{each-none-rolled-back}
use Rattle.history_laws.proofs.law.no_eject_rolled_back.Goals as goal

pub returns : goal.returns
returns c = λ layout script disks history begins. each-none-rolled-back
    (opening_world layout script disks) script.nodes script.commands history begins
