use Rattle.std.proofs.Common.{sym, ◌∙◌}
use Rattle.transput.proofs.Places.{items_are}
use Rattle.transput.proofs.values.copied.Goals as goal

pub returns-in_ok-into_values-in-List : goal.returns-in_ok-into_values-in-List
returns-in_ok-into_values-in-List c = c.in_ok-into_values-in-List.ensures ∙ c.in_ok-share-in-List.ensures ∙ sym (items_are _ _ c.in-List.is)
