use Rattle.std.proofs.Common.{rules}
use Rattle.eden_disk.proofs.sim_disk.SimDisk.stop.Goals as goal

pub returns-clause-after : goal.returns-clause-after
returns-clause-after c = search rules
