use Rattle.epl_parser.proofs.OneAnswer.{one_place, never_both}
use Rattle.epl_parser.proofs.law.refusals_are_one.Goals as goal

pub returns : goal.returns
returns c = record { one_place = one_place; never_both = never_both }
