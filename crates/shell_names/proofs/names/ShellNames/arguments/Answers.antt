use Rattle.std.proofs.Common.{rules}
use Rattle.shell_names.proofs.names.ShellNames.arguments.Goals as goal

pub returns-in-None : goal.returns-in-None
returns-in-None c = search rules
