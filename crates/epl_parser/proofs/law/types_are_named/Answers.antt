use Rattle.epl_parser.proofs.TreeNames.{is_named}
use Rattle.epl_parser.proofs.law.types_are_named.Goals as goal

pub returns : goal.returns
returns c = record { named = is_named }
