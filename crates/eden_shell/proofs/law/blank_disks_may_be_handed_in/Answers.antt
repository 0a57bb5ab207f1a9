use Rattle.eden_shell.proofs.Blank.{blank_disks, blank_for_many}
use Rattle.eden_shell.proofs.law.blank_disks_may_be_handed_in.Goals as goal

pub returns : goal.returns
returns c = record { once = blank_disks; often = blank_for_many }
