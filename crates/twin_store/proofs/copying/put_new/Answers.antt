use Rattle.std.proofs.Common.{subst}
use Rattle.std.specs.Prelude.{List, ℕ, Some, Ok}
use Rattle.std.proofs.lemmas.Result.{err_from_is_err_and}
use Rattle.passive_store.specs.Seen.{asked, disk_seen}
use Rattle.twin_store.specs.Copies.{LooksFor}
use Rattle.twin_store.specs.Sides.{SideServes, side_seen}
use Rattle.twin_store.proofs.Filling.{fills_already, fills_unput_at, fills_put}
use Rattle.twin_store.proofs.copying.put_new.Goals as goal

pub returns-then-branch-clause-fills : goal.returns-then-branch-clause-fills
returns-then-branch-clause-fills g c = λ so.
    let of = side_seen g.St.Store.seen (disk_seen g.St.Device.Disk.counts g.St.Device.Disk.told g.St.Device.Disk.due) in
    fills_already g.St.Store.layout c.args.node c.args.uid c.args.body.now (of c.args.target.now) (of c.has_already.new.target)
    (subst (λ b. LooksFor g.St.Store.layout c.args.node c.args.uid c.args.body.now (Ok b) (of c.args.target.now)
    (of c.has_already.new.target))
    c.if-branch.true (c.in_ok-has_already.ensures.looks so))

pub returns-in_err-put-clause-fills : goal.returns-in_err-put-clause-fills
returns-in_err-put-clause-fills g c = λ so.
    let of = side_seen g.St.Store.seen (disk_seen g.St.Device.Disk.counts g.St.Device.Disk.told g.St.Device.Disk.due) in
    let p = err_from_is_err_and c.from_residual-in_err-put.result c.from_residual-in_err-put.ensures.1 in
    rw (p.1, p.2) (fills_unput_at g.St.Device.Disk.tells g.St.Store.layout c.args.node c.args.uid c.args.body.now c.as_slice-2.result.now _
    (of c.args.target.now) (of c.has_already.new.target) (of c.put.new.self) c.as_slice-2.ensures
    (subst (λ b. LooksFor g.St.Store.layout c.args.node c.args.uid c.args.body.now (Ok b) (of c.args.target.now)
    (of c.has_already.new.target))
    c.if-branch.false (c.in_ok-has_already.ensures.looks so))
    c.in_err-put.ensures so)

pub returns-clause-fills : goal.returns-clause-fills
returns-clause-fills g c = λ so.
    let of = side_seen g.St.Store.seen (disk_seen g.St.Device.Disk.counts g.St.Device.Disk.told g.St.Device.Disk.due) in
    fills_put g.St.Device.Disk.tells g.St.Store.layout c.args.node c.args.uid c.args.body.now c.in_ok-put.field-0 (of c.args.target.now)
    (of c.has_already.new.target) (of c.put.new.self)
    (subst (λ b. LooksFor g.St.Store.layout c.args.node c.args.uid c.args.body.now (Ok b) (of c.args.target.now)
    (of c.has_already.new.target))
    c.if-branch.false (c.in_ok-has_already.ensures.looks so))
    (subst (λ (b : List ℕ). SideServes g.St.Device.Disk.tells g.St.Store.layout c.args.node (Some (asked c.args.uid (Some b)))
    (Ok c.in_ok-put.field-0) (of c.has_already.new.target) (of c.put.new.self))
    c.as_slice-2.ensures c.in_ok-put.ensures) so
