use Rattle.eden_shell.proofs.Empty.{blank-no-texts, blank-rise, zeros-no-texts}
use Rattle.eden_shell.proofs.law.blank_disks_keep_no_texts.Goals as goal

pub returns : goal.returns
returns c = record { keep = blank-no-texts; zeros = zeros-no-texts; rise = blank-rise }
