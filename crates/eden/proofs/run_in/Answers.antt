use Rattle.file_disk.specs.Counted.{counts_of}
use Rattle.eden.proofs.Sizes.{either_size}
use Rattle.eden.proofs.run_in.Goals as goal

pub run-requires-clause-sizes : goal.run-requires-clause-sizes
run-requires-clause-sizes c =
    either_size (λ d. (counts_of d).size) 1048576 4194304 c.in-Ok.disks.items c.in-Ok.ensures.sizes
