use Rattle.std.proofs.Common.{sym, subst}
use Rattle.std.specs.Prelude.{Some, None}
use Rattle.passive_store.specs.Seen.{asked}
use Rattle.twin_store.specs.Serving.{Serves}
use Rattle.twin_store.proofs.Serving.{serves_delete}
use Rattle.twin_store.proofs.served.delete_in.Goals as goal

pub returns : goal.returns
returns g c =
    subst (λ r. Serves g.St.Device.Disk.tells g.St.Store.layout c.args.node (Some (asked c.args.uid None)) r
    (g.St.Store.seen c.args.store.now) (g.St.Store.seen c.delete.new.self))
    (sym c.served.ensures)
    (serves_delete g.St.Device.Disk.tells g.St.Device.Disk.obeys g.St.Store.layout c.args.node _ c.delete.result _ _ c.requires.ready
    c.delete.ensures)
