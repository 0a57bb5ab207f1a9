use Rattle.journal.proofs.Blank.{blank-disks-may-be-handed-in}
use Rattle.history_laws.proofs.law.blank_disks_may_be_handed_in.Goals as goal

pub returns : goal.returns
returns c = blank-disks-may-be-handed-in
