use Rattle.std.proofs.Common.{rules}
use Rattle.epl_parser.proofs.item.next_number.Goals as goal

pub returns : goal.returns
returns c = search rules
