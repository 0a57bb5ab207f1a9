use Rattle.std.proofs.Common.{◌≡◌, ◌∙◌, ap, ◌++◌, append_assoc, List, ℕ}
use Rattle.std.specs.Prelude.{codes}
use Rattle.mistakes.specs.Words as words
use Rattle.mistakes.proofs.differing.add_counts.Goals as goal

pub returns : goal.returns
returns c =
    let first = words.count_text (codes "values in the parentheses: ") c.args.wanted in
    let second = words.count_text (codes "; here: ") c.args.found in
    c.in_ok-add_count-2.ensures ∙ ap (λ (x : List ℕ). x ++ second) c.in_ok-add_count.ensures
    ∙ append_assoc c.args.out.now.items first second
