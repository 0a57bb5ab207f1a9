use Rattle.std.proofs.Common.{◌≡◌, length, sym, ap, ◌∙◌, rules, Ok}
use Rattle.epl_syntax.specs.Operators.{place_in}
use Rattle.epl_values.proofs.Operands.{cut_found}
use Rattle.epl_values.proofs.builtin.cut_of.Goals as goal

pub returns : goal.returns
returns c =
    let vs = c.in_ok-values.values.items in
    let size : c.len.result ≡ length vs = search rules in
    let place : place_in c.len.result c.args.n ≡ Ok c.in_ok-place.place = search rules in
    cut_found c.args.items vs c.remove.new.self.items c.args.n c.in_ok-place.place c.list_of.result c.in_ok-values.ensures
    (ap (λ k. place_in k c.args.n) (sym size) ∙ place) c.remove.ensures.items c.list_of.ensures
