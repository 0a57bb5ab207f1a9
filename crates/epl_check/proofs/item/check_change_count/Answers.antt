use Rattle.std.proofs.Common.{ap, ◌∙◌}
use Rattle.epl_syntax.specs.Rules.First.{least}
use Rattle.epl_syntax.specs.Rules.InItems.{too_many, places_of}
use Rattle.epl_check.proofs.Items.{changes_named}
use Rattle.epl_check.proofs.item.check_change_count.Goals as goal

pub returns : goal.returns
returns c = c.check_count.ensures ∙ ap (λ n. least c.args.first.now (too_many 64 (places_of n))) (changes_named c.args.changes.now)
