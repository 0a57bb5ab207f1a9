use Rattle.epl_parser.proofs.Whole.{one_type}
use Rattle.epl_parser.proofs.law.types_are_one.Goals as goal

pub returns : goal.returns
returns c = record { one_tree = one_type }
