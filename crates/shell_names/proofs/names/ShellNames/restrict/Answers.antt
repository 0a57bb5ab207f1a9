use Rattle.std.proofs.Common.{rules}
use Rattle.shell_names.proofs.names.ShellNames.restrict.Goals as goal

pub returns-in_ok-bind_capability-in-Some-clause-stands :
    goal.returns-in_ok-bind_capability-in-Some-clause-stands
returns-in_ok-bind_capability-in-Some-clause-stands c = search rules
