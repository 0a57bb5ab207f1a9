use Rattle.epl_syntax.proofs.OneList.{one_list, one_place, never_both}
use Rattle.epl_syntax.proofs.law.tokens_are_one.Goals as goal

pub returns : goal.returns
returns c = record { one_list = one_list; one_place = one_place; never_both = never_both }
