use Rattle.std.proofs.Common.{ap, ◌∙◌}
use Rattle.epl_syntax.specs.Rules.First.{least}
use Rattle.epl_syntax.specs.Rules.InItems.{too_many, places_of}
use Rattle.epl_check.proofs.Items.{operations_named}
use Rattle.epl_check.proofs.checker.check_operation_count.Goals as goal

pub returns : goal.returns
returns c = c.check_count.ensures ∙ ap (λ n. least c.args.first.now (too_many 32 (places_of n))) (operations_named c.args.operations.now)
