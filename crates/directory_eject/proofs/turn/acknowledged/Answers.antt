use Rattle.std.proofs.Common.{rules}
use Rattle.directory_eject.proofs.turn.acknowledged.Goals as goal

pub returns-in_default : goal.returns-in_default
returns-in_default c = search rules
