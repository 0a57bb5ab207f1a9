use Rattle.epl_parser.proofs.TreeConstants.{constants_fit}
use Rattle.epl_parser.proofs.law.constants_are_values.Goals as goal

pub returns : goal.returns
returns c = record { values = constants_fit }
