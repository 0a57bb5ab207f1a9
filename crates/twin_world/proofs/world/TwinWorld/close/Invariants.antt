use Rattle.std.proofs.Common.{◌≡◌, ◌≤◌, ◌+◌, ◌*◌, ◌++◌, map, length}
use Rattle.std.specs.Vec.{vec_capacity}
use Rattle.std.specs.Vec.Iter.{into_iter_items, into_iter_len}
use Rattle.passive_store.specs.Seen.{disk_seen}
use Rattle.twin_world.specs.Places.{standing}
use Rattle.twin_world.specs.Worlds.{standings, all_disks}
use Rattle.twin_world.proofs.Beginning.{AllStand}
use Rattle.twin_world.proofs.world.TwinWorld.close.Given as goal

-- something stands at each place that is left, and there is room for its disks; with those so far they are eight, and all that stood there
abbrev pub invariant-loop-place : goal.invariant-loop-place
invariant-loop-place g l =
    let look = disk_seen g.St.Device.Disk.counts g.St.Device.Disk.told g.St.Device.Disk.due in
    record {
      stand : AllStand (map (standing g.St.Store.seen look) (into_iter_items l.place-iterator));
      count : length l.disks.items + 2 * length (into_iter_items l.place-iterator) ≡ 8;
      room : length l.disks.items + 2 * length (into_iter_items l.place-iterator) ≤ vec_capacity l.disks;
      given : map look l.disks.items ++ all_disks (map (standing g.St.Store.seen look) (into_iter_items l.place-iterator))
          ≡ all_disks (standings g.St.Store.seen look l.fn.self.places.items);
      counted : into_iter_len l.place-iterator ≡ length (into_iter_items l.place-iterator);
    }
