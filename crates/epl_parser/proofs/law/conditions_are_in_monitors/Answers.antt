use Rattle.epl_parser.proofs.TreeMonitors.{in_monitors}
use Rattle.epl_parser.proofs.law.conditions_are_in_monitors.Goals as goal

pub returns : goal.returns
returns c = record { inside = in_monitors }
