use Rattle.std.proofs.Common.{◌≡◌, length, sym, ap, ◌∙◌, rules, Ok}
use Rattle.eden_value.specs.View.{datum}
use Rattle.epl_syntax.specs.Operators.{place_in}
use Rattle.epl_values.proofs.Operands.{item_found}
use Rattle.epl_values.proofs.builtin.item_in.Goals as goal

pub returns : goal.returns
returns c =
    let vs = c.as_slice-values.result.now in
    let place : place_in (length vs) c.args.n ≡ Ok c.in_ok-place.place = search rules in
    item_found c.args.items vs c.args.n c.in_ok-place.place c.index-values-place.result c.as_slice-values.ensures place
    c.index-values-place.is
    ∙ ap (λ v. Ok (datum v)) (sym c.in_ok-share.ensures)
