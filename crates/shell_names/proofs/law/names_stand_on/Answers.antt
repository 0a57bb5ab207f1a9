use Rattle.shell_names.proofs.Others.{stand-after, others-bind-none}
use Rattle.shell_names.proofs.law.names_stand_on.Goals as goal

pub returns : goal.returns
returns c = record { entries = stand-after; others = others-bind-none }
