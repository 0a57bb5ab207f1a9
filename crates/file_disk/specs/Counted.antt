-- The counts that a file shows as a disk.
use Rattle.std.specs.Prelude.{ℕ, true}
use Rattle.eden_disk.specs.Calls.{Counts}
use Rattle.file_disk.specs.declared.host_disk.FileDisk.{FileDisk}

-- it never stops, and wants no memory
abbrev pub counts_of : FileDisk → Counts
counts_of d = record {
  size = d.size;
  power = d.power;
  clock = d.clock;
  faults = d.faults;
  stops = 0;
  wants = 0;
}

-- those of a disk that was just opened: it has power, and no call was made
abbrev pub first_counts : ℕ → Counts
first_counts size = record {
  size = size;
  power = true;
  clock = 0;
  faults = 0;
  stops = 0;
  wants = 0;
}
