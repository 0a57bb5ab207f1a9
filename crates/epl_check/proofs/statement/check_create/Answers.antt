use Rattle.std.proofs.Common.{rules}
use Rattle.epl_check.proofs.Least.{least_append}
use Rattle.epl_check.proofs.statement.check_create.Goals as goal

pub returns : goal.returns
returns c = search (rules, least_append)
