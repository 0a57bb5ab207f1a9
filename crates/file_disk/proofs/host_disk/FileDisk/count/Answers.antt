use Rattle.std.proofs.Common.{rules}
use Rattle.file_disk.proofs.host_disk.FileDisk.count.Goals as goal

pub returns-then-is_last : goal.returns-then-is_last
returns-then-is_last c = search rules

pub returns : goal.returns
returns c = search rules
