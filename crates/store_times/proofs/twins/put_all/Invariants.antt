use Rattle.std.proofs.Common.{◌≡◌}
use Rattle.passive_store.specs.Seen.{disk_seen}
use Rattle.twin_store.specs.Twins.{twin_seen, IsTwinReady}
use Rattle.store_times.proofs.twins.put_all.Given as goal

abbrev pub invariant-loop : goal.invariant-loop
invariant-loop g l =
    IsTwinReady (twin_seen g.St.Store.seen (disk_seen g.St.Device.Disk.counts g.St.Device.Disk.told g.St.Device.Disk.due) l.twin)
    × (l.twin.node ≡ 1)
