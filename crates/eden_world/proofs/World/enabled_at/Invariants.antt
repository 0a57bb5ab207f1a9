use Rattle.std.proofs.Common.{◌≡◌, ℕ, drop}
use Rattle.std.specs.List.{flat_map}
use Rattle.passive_store.specs.Seen.{disk_seen}
use Rattle.journal.specs.World.{World}
use Rattle.journal.specs.Enabled.{enabled}
use Rattle.agenda.specs.Places.{at_place}
use Rattle.runs.specs.Reached.{IsReached}
use Rattle.eden_world.specs.InHand.{Stands}
use Rattle.eden_world.specs.Listed.{keys_at, station_count}
use Rattle.eden_world.specs.Worlds.{numbers_from}
use Rattle.eden_world.proofs.World.enabled_at.Given as goal

-- the keys of the stations that are left are at the place that is left
abbrev pub invariant-loop-number : goal.invariant-loop-number
invariant-loop-number g l = (more : ℕ) (w : World) → IsReached w
    → Stands g.St.Device.Disk.tells g.St.Store.layout g.St.Store.seen
    (disk_seen g.St.Device.Disk.counts g.St.Device.Disk.told g.St.Device.Disk.due) l.self more w
    → at_place (flat_map (keys_at w) (drop l.number (numbers_from 0 (station_count l.self)))) l.left ≡ at_place (enabled w) l.place
