use Rattle.eden_script.proofs.Unique.{at_most_one}
use Rattle.eden_script.proofs.parse.one_reading.Goals as goal

pub returns : goal.returns
returns c =
    let laws = c.refusals_are_one.ensures in
    at_most_one (record { one_tree = c.types_are_one.ensures.one_tree; one_place = laws.one_place; never_both = laws.never_both })
