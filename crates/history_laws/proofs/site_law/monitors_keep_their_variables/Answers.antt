use Rattle.history_laws.proofs.MonitorTurns.{monitors-keep-variables}
use Rattle.history_laws.proofs.VariableRuns.{variables-stay}
use Rattle.history_laws.proofs.site_law.monitors_keep_their_variables.Goals as goal

pub returns : goal.returns
returns c = record { turns = monitors-keep-variables; entries = variables-stay }
