use Rattle.eden_disk.proofs.InCall.{in_read, in_sync, in_write}
use Rattle.eden_disk.proofs.laws.left_in_a_call.Goals as goal

pub returns-clause-read : goal.returns-clause-read
returns-clause-read c = in_read

pub returns-clause-sync : goal.returns-clause-sync
returns-clause-sync c = in_sync

pub returns-clause-write : goal.returns-clause-write
returns-clause-write c = in_write
