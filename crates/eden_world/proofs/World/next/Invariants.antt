use Rattle.std.proofs.Common.{◌≡◌, ℕ, drop}
use Rattle.std.specs.List.{find, flat_map}
use Rattle.passive_store.specs.Seen.{disk_seen}
use Rattle.journal.specs.World.{World}
use Rattle.journal.specs.Enabled.{enabled, is_past}
use Rattle.runs.specs.Reached.{IsReached}
use Rattle.eden_world.specs.InHand.{Stands}
use Rattle.eden_world.specs.Listed.{keys_at, station_count}
use Rattle.eden_world.specs.Worlds.{numbers_from}
use Rattle.eden_world.proofs.World.next.Given as goal

-- what is found at the stations that are left is found of all
abbrev pub invariant-loop-number : goal.invariant-loop-number
invariant-loop-number g l = (more : ℕ) (w : World) → IsReached w
    → Stands g.St.Device.Disk.tells g.St.Store.layout g.St.Store.seen
    (disk_seen g.St.Device.Disk.counts g.St.Device.Disk.told g.St.Device.Disk.due) l.self more w
    → find (is_past l.last) (flat_map (keys_at w) (drop l.number (numbers_from 0 (station_count l.self)))) ≡ find (is_past l.last) (enabled w)
