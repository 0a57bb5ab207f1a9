use Rattle.std.proofs.Common.{sym, subst, ◌∙◌, inr}
use Rattle.std.specs.Prelude.{Some, None, Ok}
use Rattle.std.specs.FinMap as map
use Rattle.std.proofs.lemmas.Result.{err_from_is_err_and}
use Rattle.passive_store.specs.Seen.{asked, disk_seen}
use Rattle.twin_store.specs.Sides.{SideServes, side_seen, bodies_on}
use Rattle.twin_store.proofs.Clearing.{IsClearing, clearing_removed, clearing_spared, cleared_refused, cleared_whole, removed_how}
use Rattle.twin_store.proofs.Clearing.{spared_clear}
use Rattle.twin_store.proofs.Clearing.{at_some, at_none}
use Rattle.twin_store.proofs.copying.clear.Goals as goal
use Rattle.twin_store.proofs.copying.clear.Goals.{then-not-spares+in_ok-delete, else-not-spares}

pub loop-next-preserved : goal.loop-next-preserved
loop-next-preserved g c =
    let of = side_seen g.St.Store.seen (disk_seen g.St.Device.Disk.counts g.St.Device.Disk.told g.St.Device.Disk.due) in
    let source = of c.args.source.now in
    let old = of c.args.target.now in
    let to = of c.if-not-spares.target in
    let next = c.next-next-in-Some.result in
    let walk = c.next-next-in-Some.ensures in
    let here = at_some g.St.Device.Disk.tells g.St.Store.layout c.args.all c.args.node source old (of c.loop-next.target) c.loop-next.next
    c.in-Some.uid c.in-Some.is
    c.loop-next.invariant in
    elim c.if-not-spares.branch [
      | then-not-spares+in_ok-delete w ↦
          clearing_removed g.St.Device.Disk.tells g.St.Store.layout c.args.all c.args.node source old (of c.loop-next.target) to
          c.in-Some.uid next w.in_ok-delete.field-0 here
          (subst (λ t. SideServes g.St.Device.Disk.tells g.St.Store.layout c.args.node (Some (asked c.in-Some.uid None))
          (Ok w.in_ok-delete.field-0)
          (of c.loop-next.target) (of t)) (sym w.target-is) w.in_ok-delete.ensures)
          (λ so on. removed_how c.args.all (map.get (bodies_on source) c.in-Some.uid) (sym (c.spares.ensures so on) ∙ w.if-not-spares.true))
          walk.own walk.fits walk.next
      | else-not-spares w ↦
          clearing_spared g.St.Device.Disk.tells g.St.Store.layout c.args.all c.args.node source old to c.in-Some.uid next
          (subst (λ t. IsClearing g.St.Device.Disk.tells g.St.Store.layout c.args.all c.args.node source old (of t) (Some c.in-Some.uid))
          (sym w.target-is) here)
          (λ so on. inr (spared_clear c.args.all (map.get (bodies_on source) c.in-Some.uid) (sym (c.spares.ensures so on)
          ∙ w.if-not-spares.false)))
          walk.own walk.fits walk.next
    ]

pub returns-in_err-delete-clause-clears : goal.returns-in_err-delete-clause-clears
returns-in_err-delete-clause-clears g c = λ so on.
    let of = side_seen g.St.Store.seen (disk_seen g.St.Device.Disk.counts g.St.Device.Disk.told g.St.Device.Disk.due) in
    let p = err_from_is_err_and c.from_residual.result c.from_residual.ensures.1 in
    rw (p.1, p.2) (cleared_refused g.St.Device.Disk.tells g.St.Store.layout c.args.all c.args.node (of c.args.source.now)
    (of c.args.target.now) (of c.loop-next.target)
    (of c.delete.new.self) c.in-Some.uid _
    (at_some g.St.Device.Disk.tells g.St.Store.layout c.args.all c.args.node (of c.args.source.now) (of c.args.target.now)
    (of c.loop-next.target) c.loop-next.next c.in-Some.uid
    c.in-Some.is c.loop-next.invariant)
    c.in_err-delete.ensures
    (λ so on. removed_how c.args.all (map.get (bodies_on (of c.args.source.now)) c.in-Some.uid)
    (sym (c.spares.ensures so on) ∙ c.if-not-spares.true))
    so on)

pub returns-clause-clears : goal.returns-clause-clears
returns-clause-clears g c = λ so on.
    let of = side_seen g.St.Store.seen (disk_seen g.St.Device.Disk.counts g.St.Device.Disk.told g.St.Device.Disk.due) in
    cleared_whole g.St.Device.Disk.tells g.St.Store.layout c.args.all c.args.node (of c.args.source.now) (of c.args.target.now)
    (of c.loop-next.target)
    (at_none g.St.Device.Disk.tells g.St.Store.layout c.args.all c.args.node (of c.args.source.now) (of c.args.target.now)
    (of c.loop-next.target) c.loop-next.next
    c.in_default.not-Some c.loop-next.invariant)
    so on
