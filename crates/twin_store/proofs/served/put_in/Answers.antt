use Rattle.std.proofs.Common.{sym, subst}
use Rattle.std.specs.Prelude.{Some}
use Rattle.passive_store.specs.Seen.{asked}
use Rattle.twin_store.specs.Serving.{Serves}
use Rattle.twin_store.proofs.Serving.{serves_put}
use Rattle.twin_store.proofs.served.put_in.Goals as goal

pub returns : goal.returns
returns g c =
    subst (λ r. Serves g.St.Device.Disk.tells g.St.Store.layout c.args.node (Some (asked c.args.uid (Some c.args.body.now))) r
    (g.St.Store.seen c.args.store.now) (g.St.Store.seen c.put.new.self))
    (sym c.served.ensures)
    (serves_put g.St.Device.Disk.tells g.St.Device.Disk.obeys g.St.Store.layout c.args.node _ c.put.result _ _ c.requires.ready
    c.put.ensures)
