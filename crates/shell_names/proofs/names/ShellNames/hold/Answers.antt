use Rattle.std.proofs.Common.{rules}
use Rattle.shell_names.proofs.names.ShellNames.hold.Goals as goal

pub returns-clause-stands : goal.returns-clause-stands
returns-clause-stands c = search rules
