use Rattle.std.proofs.Common.{ap, ◌∙◌}
use Rattle.epl_syntax.specs.Rules.First.{least}
use Rattle.epl_syntax.specs.Rules.InItems.{too_many, places_of}
use Rattle.epl_check.proofs.Items.{vars_named}
use Rattle.epl_check.proofs.checker.check_var_count.Goals as goal

pub returns : goal.returns
returns c = c.check_count.ensures ∙ ap (λ n. least c.args.first.now (too_many 64 (places_of n))) (vars_named c.args.vars.now)
