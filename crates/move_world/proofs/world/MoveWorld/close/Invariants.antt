use Rattle.std.proofs.Common.{◌≡◌, ◌≤◌, ◌+◌, ◌++◌, map, length}
use Rattle.std.specs.List.{filter_map}
use Rattle.std.specs.Vec.{vec_capacity}
use Rattle.std.specs.Vec.Iter.{into_iter_items, into_iter_len}
use Rattle.passive_store.specs.Seen.{disk_seen}
use Rattle.move_world.specs.Disks.{shown_in}
use Rattle.move_world.proofs.world.MoveWorld.close.Given as goal

-- the disks so far and those of the places that are left are all disks, and there is room for them
abbrev pub invariant-loop-seat : goal.invariant-loop-seat
invariant-loop-seat g l =
    let look = disk_seen g.St.Device.Disk.counts g.St.Device.Disk.told g.St.Device.Disk.due in
    record {
      disks : map look l.disks.items ++ filter_map (shown_in g.St.Store.seen look) (into_iter_items l.seat-iterator)
          ≡ filter_map (shown_in g.St.Store.seen look) l.fn.self.seats.items;
      room : length l.disks.items + length (into_iter_items l.seat-iterator) ≤ vec_capacity l.disks;
      counted : into_iter_len l.seat-iterator ≡ length (into_iter_items l.seat-iterator);
    }
