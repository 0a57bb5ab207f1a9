use Rattle.std.proofs.Common.{nat_eq, sym, ap, ◌∙◌}
use Rattle.std.specs.Cmp.Lexicographic.{pointwise}
use Rattle.epl_syntax.proofs.SameText.{same_as_pointwise}
use Rattle.edentypes.proofs.operations.is_called.Goals as goal

pub returns : goal.returns
returns c =
    let n = c.args.name.now in
    c.eq.ensures ∙ ap (λ l. pointwise nat_eq n l) c.as_slice.ensures ∙ sym (same_as_pointwise n c.args.text.now)
