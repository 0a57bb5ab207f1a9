use Rattle.std.proofs.Common.{rules}
use Rattle.file_disk.proofs.folder.open_one.Goals as goal

pub returns-in_ok-file-in-Ok-None-clause-size : goal.returns-in_ok-file-in-Ok-None-clause-size
returns-in_ok-file-in-Ok-None-clause-size c = search rules
