use Rattle.std.proofs.Common.{ap, ◌∙◌, sym, min}
use Rattle.eden_value.specs.View.{datums}
use Rattle.eden_codec.specs.Spelling.{values_size}
use Rattle.eden_codec.proofs.Cases.{list_size}
use Rattle.eden_codec.proofs.Sizes.{most, three_more}
use Rattle.eden_codec.proofs.size.+size.Goals as goal

pub value_size-returns-in-List : goal.value_size-returns-in-List
value_size-returns-in-List t c =
    let p = list_size c.args.value.now c.in-List.items c.items.inside.values.value.items c.as_slice.result.now c.in-List.is c.items.view_is
    (c.as_slice.ensures.value ∙ ap (λ v. v.items) c.deref-in-List.ensures) in
    three_more c.saturating_add-in-List.result c.row_size.result
    (values_size (datums c.as_slice.result.now)) c.saturating_add-in-List.ensures c.row_size.ensures ∙ ap (λ n. min n most) (sym p)
