use Rattle.std.proofs.Common.{rules}
use Rattle.eden_value.proofs.walk.copy_items.Goals as goal

pub returns : goal.returns
returns c = search rules
