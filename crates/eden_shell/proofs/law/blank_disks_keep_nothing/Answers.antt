use Rattle.eden_shell.proofs.Empty.{blank-keep}
use Rattle.eden_shell.proofs.law.blank_disks_keep_nothing.Goals as goal

pub returns : goal.returns
returns c = blank-keep
