use Rattle.disk_faults.proofs.Sums.{level, shows-each, shows-no-more}
use Rattle.disk_faults.proofs.Commands.{has-commands, left-armed, shows-clocks}
use Rattle.std.proofs.Common.{sym}
use Rattle.journal.specs.Run.{steps}
use Rattle.disk_faults.proofs.law.faults_are_shown.Goals as goal

pub returns-clause-whole : goal.returns-clause-whole
returns-clause-whole c = λ n p history d last r same.
    (shows-each n p history d last r same, has-commands (steps p history) n d last r (level last.counts d.last (sym same)))

pub returns-clause-so_far : goal.returns-clause-so_far
returns-clause-so_far c = λ n p history d last r more.
    (shows-no-more n p history d last r more, has-commands (steps p history) n d last r more)

pub returns-clause-counted : goal.returns-clause-counted
returns-clause-counted c = shows-clocks

pub returns-clause-armed : goal.returns-clause-armed
returns-clause-armed c = left-armed
