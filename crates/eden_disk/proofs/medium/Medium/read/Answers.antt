use Rattle.std.proofs.Common.{rules}
use Rattle.eden_disk.proofs.medium.Medium.read.Goals as goal

pub returns : goal.returns
returns c = search rules
