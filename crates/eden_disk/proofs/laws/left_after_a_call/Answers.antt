use Rattle.eden_disk.proofs.InCall.{behind_read, behind_sync, behind_write}
use Rattle.eden_disk.proofs.laws.left_after_a_call.Goals as goal

pub returns-clause-read : goal.returns-clause-read
returns-clause-read c = behind_read

pub returns-clause-sync : goal.returns-clause-sync
returns-clause-sync c = behind_sync

pub returns-clause-write : goal.returns-clause-write
returns-clause-write c = behind_write
