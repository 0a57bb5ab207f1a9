use Rattle.std.proofs.Common.{rules}
use Rattle.eden_disk.proofs.sim_disk.SimDisk.count_call.Goals as goal

pub returns-then-due-clock-clause-end : goal.returns-then-due-clock-clause-end
returns-then-due-clock-clause-end c = search rules
