use Rattle.std.proofs.Common.{rules}
use Rattle.epl_check.proofs.Least.{least_append}
use Rattle.epl_check.proofs.statement.check_value.Goals as goal

pub returns-in-Some : goal.returns-in-Some
returns-in-Some c = search (rules, least_append)
