use Rattle.std.specs.Prelude.{Some, None}
use Rattle.passive_store.specs.Seen.{asked, disk_seen}
use Rattle.twin_store.specs.Twins.{twin_seen}
use Rattle.twin_store.proofs.Changing.{changed_both}
use Rattle.twin_store.proofs.twin.TwinStore.delete.Goals as goal

pub returns : goal.returns
returns g c =
    let of = twin_seen g.St.Store.seen (disk_seen g.St.Device.Disk.counts g.St.Device.Disk.told g.St.Device.Disk.due) in
    changed_both g.St.Device.Disk.tells g.St.Store.layout (Some (asked c.args.uid None)) tt c.delete_second.result (of c.args.self.now)
    (of c.delete_first.new.self) (of c.delete_second.new.self) c.in_ok-delete_first.ensures c.delete_second.ensures
