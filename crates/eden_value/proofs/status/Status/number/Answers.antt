use Rattle.std.proofs.Common.{rules}
use Rattle.eden_value.proofs.status.Status.number.Goals as goal

pub returns-in-Dropped : goal.returns-in-Dropped
returns-in-Dropped c = search rules
