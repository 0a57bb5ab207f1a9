use Rattle.std.proofs.Common.{append_assoc, ap, ◌∙◌}
use Rattle.eden_value.specs.View.{datums}
use Rattle.eden_value.proofs.Rows.{value_printed}
use Rattle.eden_value.proofs.printing.+print.Goals as goal

pub add_value-returns-in_ok-push-in-List-2 : goal.add_value-returns-in_ok-push-in-List-2
add_value-returns-in_ok-push-in-List-2 t c =
    let p = value_printed c.args.value.now c.in-List.items c.as_slice-in-List.result.now c.in-List.is
    (ap datums (c.as_slice-in-List.ensures.value ∙ ap (λ v. v.items) c.deref.ensures) ∙ c.items.view_is) in
    rw (p, c.in_ok-push-in-List-2.ensures.items, c.in_ok-add_row-in-List.ensures, c.in_ok-push-in-List.ensures.items) (simp append_assoc)
