use Rattle.std.proofs.Common.{rules}
use Rattle.eden_world.proofs.keys.is_past.Goals as goal

pub returns-in-Some : goal.returns-in-Some
returns-in-Some c = search rules
