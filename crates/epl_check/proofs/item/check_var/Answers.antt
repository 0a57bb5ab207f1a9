use Rattle.std.proofs.Common.{rules}
use Rattle.epl_check.proofs.Least.{least_append}
use Rattle.epl_check.proofs.item.check_var.Goals as goal

pub returns : goal.returns
returns c = search (rules, least_append)
