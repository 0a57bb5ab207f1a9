use Rattle.std.proofs.Common.{refl, ◌∙◌}
use Rattle.eden_value.proofs.Rows.{value_shape}
use Rattle.eden_value.specs.Shape.{shape, lists}
use Rattle.edentypes.proofs.kinds.is_list_of.Goals as goal

pub returns-in-List : goal.returns-in-List
returns-in-List c =
    c.have_kind.ensures
    ∙ value_shape c.args.value.now c.in-List.items c.as_slice.result.now c.in-List.is c.as_slice.ensures
    (shape c.args.kind.now) (lists (shape c.args.kind.now)) refl
