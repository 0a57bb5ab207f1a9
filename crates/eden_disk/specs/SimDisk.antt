-- The disk in memory as a machine: what each call leaves of it.
use Rattle.std.specs.Prelude.{◌≡◌, ◌⊎◌, ℕ, ◌+◌, ◌^◌, ◌-◌, ◌==◌, true, false, List, [], length, replicate, Result, Err, Option, None}
use Rattle.std.specs.Prelude.{Some, if◌then◌else◌}
use Rattle.std.specs.Option.{option_map}
use Rattle.eden_disk.specs.declared.disk.DiskRefusal.{DiskRefusal}
use Rattle.eden_disk.specs.declared.disk.DiskRefusal.TheVariants.{Failed}
use Rattle.eden_disk.specs.declared.disk.ImageMode.{ImageMode}
use Rattle.eden_disk.specs.declared.disk.ImageMode.TheVariants.{Keep}
use Rattle.eden_disk.specs.declared.disk.Arm.{Arm}
use Rattle.eden_disk.specs.declared.disk.Arm.TheVariants.{Fail, Stop}
use Rattle.eden_disk.specs.declared.sim_disk.ArmedStop.{ArmedStop}
use Rattle.eden_disk.specs.Told.{Told, Act, Wrote, Synced, contents, noted}
use Rattle.eden_disk.specs.Calls.{Counts, Due, End, Fine, AtFault, AtStop, one_more, end_of, end_due}
use Rattle.eden_disk.specs.Images.{after_cut, half_written}

-- What a disk in memory shows. An armed failure or stop is kept with the clock at which it falls due.
pub record Simulated : Type 0 where
  pub counts : Counts
  pub told : Told
  pub failure : Option ℕ
  pub stop : Option ArmedStop

-- a disk with this image, with power and with nothing counted, changed or armed
abbrev pub begun_with : List ℕ → Simulated
begun_with image = record {
  counts = record { size = length image; power = true; clock = 0; faults = 0; stops = 0; wants = 0 };
  told = record { image = image; acts = [] };
  failure = None;
  stop = None;
}

-- So many zero bytes. It does not compute by itself, since a disk has millions.
unfoldable pub zeros : ℕ → List ℕ
zeros size = replicate size 0

-- a disk of zero bytes likewise
abbrev pub blank_of : ℕ → Simulated
blank_of size = record {
  counts = record { size = size; power = true; clock = 0; faults = 0; stops = 0; wants = 0 };
  told = record { image = zeros size; acts = [] };
  failure = None;
  stop = None;
}

-- the clock at which an armed stop falls due
abbrev pub stop_due : ArmedStop → ℕ
stop_due s = s.due

-- what is armed, by the clocks at which it falls due
abbrev pub due_of : Simulated → Due
due_of d = record { failure = d.failure; stop = option_map stop_due d.stop }

-- how the next device call ends, where it finds its memory
abbrev pub next_end : Simulated → End
next_end d = end_due (due_of d) d.counts.clock

-- the image that the armed stop leaves
abbrev pub mode_of : Option ArmedStop → ImageMode
mode_of None = Keep
mode_of (Some s) = s.mode

-- a device call is counted
abbrev pub counted : Simulated → Simulated
counted d = record d { counts = record d.counts { clock = one_more d.counts.clock } }

-- a change of the contents is told
abbrev pub changed : Act → Simulated → Simulated
changed act d = record d { told = noted act d.told }

-- a call that fails: one more fault
abbrev pub failed : Simulated → Simulated
failed d = record d { counts = record d.counts { faults = one_more d.counts.faults } }

-- a call that is stopped: its cut, and no power
abbrev pub stopped : Simulated → Simulated
stopped d = record d {
  counts = record d.counts { power = false; stops = one_more d.counts.stops };
  told = after_cut (mode_of d.stop) d.counts.clock d.told;
}

-- A write that finds no memory is counted, and changes nothing else.
abbrev pub without_memory : Simulated → Simulated
without_memory d = record (failed (counted d)) { counts = record (failed (counted d)).counts { wants = one_more d.counts.wants } }

-- what a read leaves, by how it ended
abbrev pub after_read : End → Simulated → Simulated
after_read Fine d = counted d
after_read AtFault d = failed (counted d)
after_read AtStop d = stopped (counted d)

-- what a sync leaves, by how it ended
abbrev pub after_sync : End → Simulated → Simulated
after_sync Fine d = changed (Synced (counted d).counts.clock) (counted d)
after_sync AtFault d = failed (counted d)
after_sync AtStop d = stopped (counted d)

-- a write that is told
abbrev pub written : ℕ → List ℕ → Simulated → Simulated
written at bytes d = changed (Wrote d.counts.clock at bytes) d

-- what a write leaves, by how it ended: one that fails leaves the first half of its bytes, and at the last clock nothing; one that is
-- stopped has written all, and then loses the power
abbrev pub after_write : ℕ → List ℕ → End → Simulated → Simulated
after_write at bytes Fine d = written at bytes (counted d)
after_write at bytes AtFault d =
    failed (if d.counts.clock == 2 ^ 64 - 1 then counted d else written at (half_written at bytes (contents d.told).now) (counted d))
after_write at bytes AtStop d = stopped (written at bytes (counted d))

-- A power cut between two calls. The mode is that of the cut.
abbrev pub after_power_cut : ImageMode → Simulated → Simulated
after_power_cut mode d = record d { counts = record d.counts { power = false }; told = after_cut mode d.counts.clock d.told }

-- a request, in place of an earlier one of its sort
abbrev pub armed_with : Arm → Simulated → Simulated
armed_with (Fail after) d = record d { failure = Some (d.counts.clock + after) }
armed_with (Stop after mode) d = record d { stop = Some (record { due = d.counts.clock + after; mode = mode }) }

-- The call ended as armed and left what it then leaves, or it found no memory.
abbrev pub IsCall : (End → Simulated → Simulated) → Simulated → Simulated → Result (Unit {0}) DiskRefusal → Type 0
IsCall after old new result = ((end_of result ≡ next_end old) × (new ≡ after (end_of result) old))
    ⊎ ((result ≡ Err Failed) × (new ≡ without_memory old))
