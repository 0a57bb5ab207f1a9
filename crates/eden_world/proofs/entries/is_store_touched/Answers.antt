use Rattle.std.proofs.Common.{rules}
use Rattle.eden_world.proofs.entries.is_store_touched.Goals as goal

pub returns-in-Part : goal.returns-in-Part
returns-in-Part c = search rules
