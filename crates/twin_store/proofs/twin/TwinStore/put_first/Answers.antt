use Rattle.std.proofs.Common.{sym, subst, ◌∙◌}
use Rattle.std.specs.Prelude.{Some, Ok}
use Rattle.std.proofs.lemmas.Result.{err_from_is_err_and}
use Rattle.passive_store.specs.Seen.{asked, disk_seen}
use Rattle.twin_store.specs.Sides.{SideServes, side_seen}
use Rattle.twin_store.proofs.Changing.{first_refused, first_done, first_spent, first_left}
use Rattle.twin_store.proofs.twin.TwinStore.put_first.Goals as goal

pub returns-in_err-put : goal.returns-in_err-put
returns-in_err-put g c =
    let p = err_from_is_err_and c.from_residual.result c.from_residual.ensures.1 in
    rw (p.1, p.2) (first_refused _ g.St.Store.layout (Some (asked c.args.uid (Some c.args.body.now))) _ _ c.requires.own _ _ _ _
    (sym c.in_use.ensures ∙ c.if-not-in_use.false) c.in_err-put.ensures)

pub returns-in-Some : goal.returns-in-Some
returns-in-Some g c =
    let of = side_seen g.St.Store.seen (disk_seen g.St.Device.Disk.counts g.St.Device.Disk.told g.St.Device.Disk.due) in
    first_done _ g.St.Store.layout (Some (asked c.args.uid (Some c.args.body.now))) _ _ c.requires.own c.in-Some.field-0 tt _ _ _
    c.requires.ready
    (subst (λ r. SideServes g.St.Device.Disk.tells g.St.Store.layout c.args.self.now.node (Some (asked c.args.uid (Some c.args.body.now)))
    (Ok r) (of c.args.self.now.first) (of c.put.new.self))
    c.in-Some.is c.in_ok-put.ensures)

pub returns-in_err-self-in-None : goal.returns-in_err-self-in-None
returns-in_err-self-in-None g c =
    let of = side_seen g.St.Store.seen (disk_seen g.St.Device.Disk.counts g.St.Device.Disk.told g.St.Device.Disk.due) in
    let p = err_from_is_err_and c.from_residual-in_err-self-in-None.result c.from_residual-in_err-self-in-None.ensures.1 in
    rw (p.1, p.2) (first_spent _ g.St.Store.layout (Some (asked c.args.uid (Some c.args.body.now))) _ c.args.self.now.generation
    c.requires.own _ _ _ _ _ (sym c.in_use.ensures ∙ c.if-not-in_use.false)
    (subst (λ r. SideServes g.St.Device.Disk.tells g.St.Store.layout c.args.self.now.node (Some (asked c.args.uid (Some c.args.body.now)))
    (Ok r) (of c.args.self.now.first) (of c.put.new.self))
    c.in-None.is c.in_ok-put.ensures) c.in_err-self-in-None.ensures)

pub returns-in_ok-self-in-None : goal.returns-in_ok-self-in-None
returns-in_ok-self-in-None g c =
    let of = side_seen g.St.Store.seen (disk_seen g.St.Device.Disk.counts g.St.Device.Disk.told g.St.Device.Disk.due) in
    first_left _ g.St.Store.layout (Some (asked c.args.uid (Some c.args.body.now))) _ c.args.self.now.generation c.requires.own _ tt _ _ _ _
    c.requires.ready (sym c.in_use.ensures ∙ c.if-not-in_use.false)
    (subst (λ r. SideServes g.St.Device.Disk.tells g.St.Store.layout c.args.self.now.node (Some (asked c.args.uid (Some c.args.body.now)))
    (Ok r) (of c.args.self.now.first) (of c.put.new.self))
    c.in-None.is c.in_ok-put.ensures) c.in_ok-self-in-None.ensures
