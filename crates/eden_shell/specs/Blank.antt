-- Disks on which nothing was ever written.
use Rattle.std.specs.Prelude.{◌≡◌, ◌≤◌, ◌^◌, ℕ, true, List, map}
use Rattle.std.specs.List.{All}
use Rattle.eden_disk.specs.SimDisk.{Simulated, blank_of, due_of}
use Rattle.passive_store.specs.Seen.{DiskSeen}
use Rattle.block_tables.specs.Blocks.{is_block_size}
use Rattle.passive_blocks.specs.BlockLayout.{block_layout}
use Rattle.journal.specs.Standing.{DiskRun}
use Rattle.journal.specs.LegalRun.{IsHandedIn, IsHandedInFor, AreHandedInFor}
use Rattle.journal.specs.RefusedRuns.{blank_told}
use Rattle.eden_world.specs.Legal.{disk_runs}
use Rattle.move_world.specs.Disks.{KeepNothing}
use Rattle.twin_world.specs.Disks as twins
use Rattle.shell_answers.specs.Answers.{seen_before}

-- A disk of so many zeros is handed in as it has to be: where blocks may stand on it, nothing is kept there and the room is told for all
-- that a run can change; at any other size it has no map.
abbrev pub BlankDisksMayBeHandedIn : Type 0
BlankDisksMayBeHandedIn = (n size : ℕ) (d : DiskRun) → d.before ≡ blank_told size → IsHandedIn block_layout n d

-- It is so for 2^63 changes: more than 2^42 runs may follow one another on such disks, each of which makes fewer than 2^21.
abbrev pub BlankDisksMayBeHandedInForMany : Type 0
BlankDisksMayBeHandedInForMany = (n size more : ℕ) (d : DiskRun) → more ≤ 2 ^ 63 → d.before ≡ blank_told size
    → IsHandedInFor block_layout n more d

-- each of these disks in memory is as it was made, of zeros
abbrev pub AreBlank : List Simulated → Type 0
AreBlank disks = All (λ d. (size : ℕ) × (d ≡ blank_of size)) disks

-- how a disk in memory is seen
abbrev pub sim_seen : Simulated → DiskSeen
sim_seen d = record { counts = d.counts; told = d.told; due = due_of d }

-- so these are handed in, whatever a run gives back
abbrev pub BlankDisksAreHandedIn : Type 0
BlankDisksAreHandedIn = (before after : List Simulated) (more : ℕ) → more ≤ 2 ^ 63 → AreBlank before
    → AreHandedInFor block_layout more (disk_runs true sim_seen before after)

-- blocks may stand on each of these disks, by its size
abbrev pub AreOfBlocks : List DiskRun → Type 0
AreOfBlocks runs = All (λ d. is_block_size d.first.size ≡ true) runs

-- nor does any of them keep anything of an Eject that wanders, where blocks may stand on it
abbrev pub BlankDisksKeepNothing : Type 0
BlankDisksKeepNothing = (before after : List Simulated) → AreBlank before → AreOfBlocks (disk_runs true sim_seen before after)
    → KeepNothing block_layout (map seen_before (disk_runs true sim_seen before after))

-- nor of a pair of disks, and its count of faults can rise as often as a script has commands
abbrev pub BlankDisksKeepNoTexts : Type 0
BlankDisksKeepNoTexts = (before after : List Simulated) → AreBlank before → AreOfBlocks (disk_runs true sim_seen before after)
    → twins.KeepNothing block_layout (map seen_before (disk_runs true sim_seen before after))

abbrev pub BlankDisksCanRise : Type 0
BlankDisksCanRise = (before after : List Simulated) (k : ℕ) → k ≤ 1048576 → AreBlank before
    → twins.CanRise k (map seen_before (disk_runs true sim_seen before after))
