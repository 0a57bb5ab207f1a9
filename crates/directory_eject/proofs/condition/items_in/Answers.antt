use Rattle.std.proofs.Common.{sym, ap, ◌∙◌}
use Rattle.eden_value.specs.Code.{items_of-data_of}
use Rattle.eden_value.specs.View.{datum}
use Rattle.epl_syntax.specs.Simple.{items_in}
use Rattle.directory_eject.proofs.condition.items_in.Goals as goal

pub returns-in-List : goal.returns-in-List
returns-in-List c =
    c.as_slice.ensures ∙ sym (items_of-data_of c.in-List.items) ∙ sym (ap (λ v. items_in (datum v)) c.in-List.is)
