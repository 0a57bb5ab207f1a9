use Rattle.std.proofs.Common.{arith}
use Rattle.std.proofs.lemmas.Grind.{common_steps}
use Rattle.directory_eject.proofs.condition.native_start.Goals as goal

pub returns-then-names-held : goal.returns-then-names-held
returns-then-names-held c = grind (arith, common_steps)
