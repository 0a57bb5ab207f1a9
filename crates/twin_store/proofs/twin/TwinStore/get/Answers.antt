use Rattle.std.proofs.Common.{subst}
use Rattle.std.specs.Prelude.{Ok}
use Rattle.passive_store.specs.Seen.{disk_seen}
use Rattle.twin_store.specs.Twins.{LooksFirst, twin_seen}
use Rattle.std.proofs.lemmas.Result.{err_from_is_err_and}
use Rattle.twin_store.proofs.Looking.{got_none, got_second}
use Rattle.twin_store.proofs.twin.TwinStore.get.Goals as goal

pub returns-in-None : goal.returns-in-None
returns-in-None g c =
    let of = twin_seen g.St.Store.seen (disk_seen g.St.Device.Disk.counts g.St.Device.Disk.told g.St.Device.Disk.due) in
    got_second _ g.St.Store.layout _ _ (of c.args.self.now) (of c.get_first.new.self) (of c.get_second.new.self)
    (subst (λ r. LooksFirst g.St.Device.Disk.tells g.St.Store.layout c.args.uid (Ok r) (of c.args.self.now) (of c.get_first.new.self))
    c.in-None.is c.in_ok-found.ensures)
    c.get_second.ensures

pub returns-in_err-found : goal.returns-in_err-found
returns-in_err-found g c =
    let of = twin_seen g.St.Store.seen (disk_seen g.St.Device.Disk.counts g.St.Device.Disk.told g.St.Device.Disk.due) in
    let p = err_from_is_err_and c.from_residual.result c.from_residual.ensures.1 in
    rw (p.1, p.2) (got_none g.St.Device.Disk.tells g.St.Store.layout c.args.uid _ (of c.args.self.now) (of c.get_first.new.self)
    c.in_err-found.ensures)
