use Rattle.std.proofs.Common.{nat_eq, sym, ap, ◌∙◌}
use Rattle.std.specs.Cmp.Lexicographic.{pointwise}
use Rattle.epl_syntax.proofs.SameText.{same_as_pointwise}
use Rattle.epl_syntax.proofs.text.same_text.Goals as goal

pub returns : goal.returns
returns c =
    let a = c.args.a.now in
    let b = c.args.b.now in
    c.eq.ensures ∙ ap (λ l. pointwise nat_eq l c.as_slice-2.result.now) c.as_slice.ensures
    ∙ ap (λ l. pointwise nat_eq a l) c.as_slice-2.ensures ∙ sym (same_as_pointwise a b)
