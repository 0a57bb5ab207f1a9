use Rattle.undisturbed_runs.proofs.Disks.{none-in-whole, none-in-part}
use Rattle.undisturbed_runs.proofs.Checkpoints.{checkpoints-end}
use Rattle.undisturbed_runs.proofs.law.checkpoints_are_answered.Goals as goal

pub returns-clause-whole : goal.returns-clause-whole
returns-clause-whole c = λ layout script disks history lays fits rules monitors legal n d is still. checkpoints-end layout script disks
    history lays fits rules monitors legal.follows.leads n (none-in-whole n d history (legal.faults n d is) still)

pub returns-clause-so_far : goal.returns-clause-so_far
returns-clause-so_far c = λ layout script disks history lays fits rules monitors legal n d is still. checkpoints-end layout script disks
    history lays fits rules monitors legal.begins n (none-in-part n d history (legal.faults n d is) still)
