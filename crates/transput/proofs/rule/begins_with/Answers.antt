use Rattle.std.proofs.Common.{sym, ◌∙◌, take, length}
use Rattle.epl_syntax.proofs.SameText.{same_as_pointwise}
use Rattle.transput.proofs.SameText.{pointwise_swapped}
use Rattle.transput.proofs.rule.begins_with.Goals as goal

pub returns : goal.returns
returns c =
    let front = c.args.front.now in
    let item = take (length front) c.args.item.now in
    c.starts_with.ensures.value ∙ pointwise_swapped front item ∙ sym (same_as_pointwise item front)
