use Rattle.std.proofs.Common.{◌≡◌, length}
use Rattle.std.specs.List.{All, Contains}
use Rattle.file_disk.specs.Counted.{counts_of, first_counts}
use Rattle.file_disk.specs.Numbers.{IsApart, number_of}
use Rattle.file_disk.proofs.folder.open_all.Given as goal

abbrev pub invariant-loop-disk : goal.invariant-loop-disk
invariant-loop-disk l = (length l.disks.items ≡ l.disk)
    × All (λ d. Contains l.sizes (counts_of d).size) l.disks.items
    × All (λ d. counts_of d ≡ first_counts (counts_of d).size) l.disks.items
    × All (λ d. IsApart (number_of d)) l.disks.items
