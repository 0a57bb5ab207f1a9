use Rattle.std.proofs.Common.{take, sym, ap, ◌∙◌}
use Rattle.std.proofs.lemmas.List.{take-map}
use Rattle.eden_value.specs.View.{datum, datums}
use Rattle.transput.proofs.Keeping.{durable_is}
use Rattle.transput.proofs.stored.native_durable.Goals as goal

pub returns : goal.returns
returns c =
    let n = c.durable_count.result in
    let vars = c.args.vars.now in
    let vs = c.values.inside.values.items in
    ap datums c.truncate.ensures.items ∙ sym (take-map datum n vs) ∙ ap (take n) (c.values.view_is ∙ c.in_ok-values.ensures)
    ∙ ap (λ k. take k vars) c.durable_count.ensures ∙ sym (durable_is c.args.stream vars)
