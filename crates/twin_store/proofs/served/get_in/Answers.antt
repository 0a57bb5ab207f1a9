use Rattle.std.proofs.Common.{sym, subst}
use Rattle.std.specs.Prelude.{None}
use Rattle.std.specs.FinMap as map
use Rattle.twin_store.specs.Serving.{Serves, IfFound}
use Rattle.twin_store.proofs.Serving.{serves_get, finds}
use Rattle.twin_store.proofs.served.get_in.Goals as goal

pub returns-clause-serves : goal.returns-clause-serves
returns-clause-serves g c =
    subst (λ r. Serves g.St.Device.Disk.tells g.St.Store.layout c.args.node None r (g.St.Store.seen c.args.store.now)
    (g.St.Store.seen c.get.new.self))
    (sym c.served.ensures)
    (serves_get g.St.Device.Disk.tells g.St.Device.Disk.obeys g.St.Store.layout c.args.node _ c.get.result _ _ c.requires.ready
    c.get.ensures)

pub returns-clause-found : goal.returns-clause-found
returns-clause-found g c = λ so.
    subst (λ r. IfFound r (map.get (g.St.Store.seen c.args.store.now).kept.bodies c.args.uid)) (sym c.served.ensures)
    (finds g.St.Device.Disk.tells g.St.Device.Disk.obeys g.St.Store.layout c.args.node _ c.get.result _ _ c.requires.ready c.get.ensures so)
