use Rattle.std.proofs.Common.{rules}
use Rattle.shell_names.proofs.names.ShellNames.hear.Goals as goal

pub returns-then-eq-clause-stands : goal.returns-then-eq-clause-stands
returns-then-eq-clause-stands c = search rules

pub returns-clause-stands : goal.returns-clause-stands
returns-clause-stands c = search rules
