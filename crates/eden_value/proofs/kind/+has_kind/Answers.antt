use Rattle.std.proofs.Common.{◌≡◌, ap, ◌∙◌}
use Rattle.eden_value.specs.View.{datums}
use Rattle.eden_value.specs.Shape.{shape, lists, have_shape}
use Rattle.eden_value.proofs.Rows.{value_shape}
use Rattle.eden_value.proofs.kind.+has_kind.Goals as goal

pub has_kind-returns-in-List-List : goal.has_kind-returns-in-List-List
has_kind-returns-in-List-List t c =
    let e : shape c.args.kind.now ≡ lists (shape c.in-List-List.of.value) = ap shape c.in-List-List.is-1 in
    c.have_kind.ensures
    ∙ ap (λ k. have_shape (datums c.as_slice.result.now) (shape k)) c.deref-in-List-List.ensures
    ∙ value_shape c.args.value.now c.in-List-List.items c.as_slice.result.now c.in-List-List.is-0
    (ap datums (c.as_slice.ensures.value ∙ ap (λ v. v.items) c.deref.ensures) ∙ c.items.view_is)
    (shape c.in-List-List.of.value) (shape c.args.kind.now) e
