use Rattle.std.proofs.Common.{ap, ◌∙◌}
use Rattle.std.proofs.lemmas.Result.{err_from_is_err_and}
use Rattle.passive_store.specs.Seen.{disk_seen}
use Rattle.twin_store.specs.Sides.{side_seen, opened_side}
use Rattle.twin_store.proofs.Sided.{side_served, side_refused}
use Rattle.twin_store.proofs.side.Side.get.Goals as goal

pub returns-in_err-found-in-Opened-clause-serves : goal.returns-in_err-found-in-Opened-clause-serves
returns-in_err-found-in-Opened-clause-serves g c =
    let look = disk_seen g.St.Device.Disk.counts g.St.Device.Disk.told g.St.Device.Disk.due in
    let old = ap (side_seen g.St.Store.seen look) c.in-Opened.is
    ∙ ap (λ u. opened_side u (g.St.Store.seen c.in-Opened.store)) c.if-used.true in
    let p = err_from_is_err_and c.from_residual.result c.from_residual.ensures.1 in
    rw (p.1, p.2, old, c.if-used.true)
    (side_refused _ _ _ _ _ (g.St.Store.seen c.in-Opened.store) (g.St.Store.seen c.get_in.new.store)
    c.in_err-found-in-Opened.ensures.serves)

pub returns-in_ok-found-in-Opened-clause-serves : goal.returns-in_ok-found-in-Opened-clause-serves
returns-in_ok-found-in-Opened-clause-serves g c =
    let look = disk_seen g.St.Device.Disk.counts g.St.Device.Disk.told g.St.Device.Disk.due in
    let old = ap (side_seen g.St.Store.seen look) c.in-Opened.is
    ∙ ap (λ u. opened_side u (g.St.Store.seen c.in-Opened.store)) c.if-used.true in
    rw (old, c.is_some.ensures) (side_served _ _ _ _ _ (g.St.Store.seen c.in-Opened.store) (g.St.Store.seen c.get_in.new.store)
    c.in_ok-found-in-Opened.ensures.serves)
