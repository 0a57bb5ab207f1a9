use Rattle.journal.specs.LegalRun.{opening_world}
use Rattle.undisturbed_runs.proofs.Disks.{none-in-whole, none-in-part}
use Rattle.undisturbed_runs.proofs.Steps.{each-complete}
use Rattle.undisturbed_runs.proofs.law.undisturbed_runs_are_complete.Goals as goal

pub returns-clause-whole : goal.returns-clause-whole
returns-clause-whole c = λ layout script disks history legal n d is still. each-complete n (opening_world layout script disks) script.nodes
    script.commands history legal.follows.leads (none-in-whole n d history (legal.faults n d is) still)

pub returns-clause-so_far : goal.returns-clause-so_far
returns-clause-so_far c = λ layout script disks history legal n d is still. each-complete n (opening_world layout script disks) script.nodes
    script.commands history legal.begins (none-in-part n d history (legal.faults n d is) still)
