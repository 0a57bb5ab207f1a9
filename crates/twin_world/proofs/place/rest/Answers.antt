use Rattle.std.proofs.Common.{refl}
use Rattle.passive_store.specs.Seen.{disk_seen}
use Rattle.twin_world.proofs.place.rest.Goals as goal

pub returns : goal.returns
returns g c =
    let look = disk_seen g.St.Device.Disk.counts g.St.Device.Disk.told g.St.Device.Disk.due in
    record {
      one = look c.leave-first.result;
      two = look c.leave-second.result;
      is = refl;
      first_left = c.leave-first.ensures;
      second_left = c.leave-second.ensures;
    }
