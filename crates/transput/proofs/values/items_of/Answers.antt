use Rattle.std.proofs.Common.{sym, ◌∙◌}
use Rattle.transput.proofs.Places.{items_are}
use Rattle.transput.proofs.values.items_of.Goals as goal

pub returns-in-List : goal.returns-in-List
returns-in-List c = c.as_slice.ensures ∙ sym (items_are _ _ c.in-List.is)
