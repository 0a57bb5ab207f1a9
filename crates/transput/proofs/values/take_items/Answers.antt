use Rattle.std.proofs.Common.{sym, ap, ◌∙◌}
use Rattle.epl_syntax.specs.Simple.{items_in}
use Rattle.transput.proofs.Places.{items_are}
use Rattle.transput.proofs.values.take_items.Goals as goal

pub returns-in-List : goal.returns-in-List
returns-in-List c = c.in_ok-into_values-in-List.ensures ∙ sym (items_are _ _ c.in-List.is) ∙ ap items_in c.take_value.ensures.value
