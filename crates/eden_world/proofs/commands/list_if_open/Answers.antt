use Rattle.std.proofs.Common.{rules}
use Rattle.eden_world.proofs.commands.list_if_open.Goals as goal

pub returns-in_ok-push-in-Shell : goal.returns-in_ok-push-in-Shell
returns-in_ok-push-in-Shell c = search rules
