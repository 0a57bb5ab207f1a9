use Rattle.std.proofs.Common.{rules}
use Rattle.epl_check.proofs.Least.{least_append}
use Rattle.epl_check.proofs.statement.check_return.Goals as goal

pub returns-in-None : goal.returns-in-None
returns-in-None c = search (rules, least_append)
