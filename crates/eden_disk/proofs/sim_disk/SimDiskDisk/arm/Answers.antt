use Rattle.std.proofs.Common.{rules}
use Rattle.eden_disk.proofs.sim_disk.SimDiskDisk.arm.Goals as goal

pub returns-in-Fail : goal.returns-in-Fail
returns-in-Fail c = search rules
