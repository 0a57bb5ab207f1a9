use Rattle.std.proofs.Common.{rules}
use Rattle.transput.proofs.effects.came_with.Goals as goal

pub returns-in-Int-eq1-Text : goal.returns-in-Int-eq1-Text
returns-in-Int-eq1-Text c = search rules
