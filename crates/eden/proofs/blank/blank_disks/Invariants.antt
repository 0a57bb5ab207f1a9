use Rattle.std.proofs.Common.{◌≡◌, length}
use Rattle.std.specs.List.{All}
use Rattle.eden_disk.specs.SimDisk.{blank_of}
use Rattle.eden.proofs.blank.blank_disks.Given as goal

abbrev pub invariant-loop : goal.invariant-loop
invariant-loop l = (length l.disks.items ≡ l.counter)
    × All (λ d. d.counts.size ≡ 4194304) l.disks.items × All (λ d. d ≡ blank_of 4194304) l.disks.items
