use Rattle.std.proofs.Common.{rules}
use Rattle.epl_values.proofs.Places.{me_is}
use Rattle.epl_run.proofs.act.target_of.Goals as goal

pub returns-in-Me : goal.returns-in-Me
returns-in-Me c = search (rules, me_is)
