-- The counts of the disks of a world, before and behind commands.
use Rattle.std.specs.Prelude.{◌≡◌, ℕ, ◌-◌, ◌==◌, List, Option, Some, slice_get, if◌then◌else◌}
use Rattle.std.specs.Option.{option_map}
use Rattle.eden_disk.specs.Calls.{End, Fine, more_by}
use Rattle.passive_store.specs.Seen.{DiskSeen}
use Rattle.move_world.specs.Commands.{IsNode}
use Rattle.move_world.specs.Logs.{Entry, Log, all_entries}
use Rattle.move_world.specs.Seats.{Standing}
use Rattle.move_world.specs.Disks.{disk_at}
use Rattle.move_world.specs.Worlds.{standing_at}
use Rattle.move_world.specs.Counting.{Refusals, refusals_in, refusals_after, refusals_behind, faults_told, stops_told}

-- how often the disk at a place failed and stopped, if there is one
abbrev pub refusals_at : Standing → Option Refusals
refusals_at s = option_map (λ d. refusals_in d.counts) (disk_at s)

-- the disk at a place counted a command that ended so
abbrev pub Counted : End → Standing → Standing → Type 0
Counted end old new = refusals_at new ≡ option_map (refusals_after end) (refusals_at old)

-- each disk counted these commands, each of them at its node
abbrev pub AllCounted : List Entry → List Standing → List Standing → Type 0
AllCounted es old new =
    (n : ℕ) → IsNode n → refusals_at (standing_at new n) ≡ option_map (refusals_behind n es) (refusals_at (standing_at old n))

-- the disk of node m counted a command that ended so, and the others counted nothing
abbrev pub CountedAt : ℕ → End → List Standing → List Standing → Type 0
CountedAt m end old new = (n : ℕ) → IsNode n
    → refusals_at (standing_at new n) ≡ option_map (refusals_after (if n == m then end else Fine)) (refusals_at (standing_at old n))

-- these are the disks at the places
abbrev pub AreTheDisks : List DiskSeen → List Standing → Type 0
AreTheDisks ds ss = (n : ℕ) → IsNode n → slice_get ds (n - 1) ≡ disk_at (standing_at ss n)

-- Each disk counts as many more faults, and as many more stops, as the log has answers of its node that say so; a count ends at the
-- greatest number of 64 bits.
abbrev pub CountsAsTold : Log → List DiskSeen → List DiskSeen → Type 0
CountsAsTold l old new = (n : ℕ) (d e : DiskSeen) → IsNode n → slice_get old (n - 1) ≡ Some d → slice_get new (n - 1) ≡ Some e
    → (e.counts.faults ≡ more_by (faults_told n (all_entries l)) d.counts.faults)
    × (e.counts.stops ≡ more_by (stops_told n (all_entries l)) d.counts.stops)
