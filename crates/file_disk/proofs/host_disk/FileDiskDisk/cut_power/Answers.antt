use Rattle.std.proofs.Common.{rules}
use Rattle.file_disk.proofs.host_disk.FileDiskDisk.cut_power.Goals as goal

pub returns-clause-counts : goal.returns-clause-counts
returns-clause-counts c = search rules
