use Rattle.std.proofs.Common.{rules}
use Rattle.eden_value.proofs.limits.text_of.Goals as goal

pub returns-in-Err-clause-too_long : goal.returns-in-Err-clause-too_long
returns-in-Err-clause-too_long c = search rules
