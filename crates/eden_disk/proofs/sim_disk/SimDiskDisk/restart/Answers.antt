use Rattle.std.proofs.Common.{rules}
use Rattle.eden_disk.proofs.sim_disk.SimDiskDisk.restart.Goals as goal

pub returns : goal.returns
returns c = search rules
