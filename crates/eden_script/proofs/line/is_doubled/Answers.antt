use Rattle.std.proofs.Common.{rules}
use Rattle.eden_script.proofs.line.is_doubled.Goals as goal

pub returns-in-Some : goal.returns-in-Some
returns-in-Some c = search rules
