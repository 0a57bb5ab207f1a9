use Rattle.std.proofs.Common.{◌∙◌, ap}
use Rattle.eden_disk.specs.Told.{Told}
use Rattle.eden_disk.proofs.SimDiskLaws.{begun_blank}
use Rattle.eden_disk.proofs.sim_disk.SimDisk.new.Goals as goal

pub returns : goal.returns
returns c = c.begin.ensures ∙ begun_blank _ c.args.size (ap (λ (t : Told). t.image) c.blank.ensures)
