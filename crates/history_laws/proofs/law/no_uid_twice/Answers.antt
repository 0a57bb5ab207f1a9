use Rattle.history_laws.proofs.NoUidTwice.{no-uid-twice}
use Rattle.history_laws.proofs.law.no_uid_twice.Goals as goal

pub returns : goal.returns
returns c = no-uid-twice
