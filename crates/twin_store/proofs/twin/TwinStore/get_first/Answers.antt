use Rattle.std.proofs.Common.{sym, subst, ◌∙◌}
use Rattle.std.specs.Prelude.{None, Ok}
use Rattle.std.specs.FinMap as map
use Rattle.std.proofs.lemmas.Result.{err_from_is_err_and}
use Rattle.passive_store.specs.Seen.{disk_seen}
use Rattle.twin_store.specs.Serving.{IfFound}
use Rattle.twin_store.specs.Sides.{SideServes, side_seen, bodies_on}
use Rattle.twin_store.proofs.Looking.{first_refused, first_found, raise_failed, first_left}
use Rattle.twin_store.proofs.twin.TwinStore.get_first.Goals as goal

pub returns-in_err-found : goal.returns-in_err-found
returns-in_err-found g c =
    let p = err_from_is_err_and c.from_residual.result c.from_residual.ensures.1 in
    rw (p.1, p.2) (first_refused _ g.St.Store.layout _ _ _ _ _ _ _ (sym c.in_use.ensures ∙ c.if-not-in_use.false)
    c.in_err-found.ensures.serves)

pub returns-in-Some : goal.returns-in-Some
returns-in-Some g c =
    let of = side_seen g.St.Store.seen (disk_seen g.St.Device.Disk.counts g.St.Device.Disk.told g.St.Device.Disk.due) in
    first_found _ g.St.Store.layout _ _ _ _ _ _ _ c.requires.ready c.requires.own (sym c.in_use.ensures ∙ c.if-not-in_use.false)
    (subst (λ r. SideServes g.St.Device.Disk.tells g.St.Store.layout c.args.self.now.node None (Ok r) (of c.args.self.now.first)
    (of c.get.new.self))
    c.in-Some.is c.in_ok-found.ensures.serves)
    (λ so on. subst (λ r. IfFound (Ok r) (map.get (bodies_on (of c.args.self.now.first)) c.args.uid)) c.in-Some.is
    (c.in_ok-found.ensures.found so on))

pub returns-in_err-self-in-None : goal.returns-in_err-self-in-None
returns-in_err-self-in-None g c =
    let of = side_seen g.St.Store.seen (disk_seen g.St.Device.Disk.counts g.St.Device.Disk.told g.St.Device.Disk.due) in
    let p = err_from_is_err_and c.from_residual-in_err-self-in-None.result c.from_residual-in_err-self-in-None.ensures.1 in
    rw (p.1, p.2) (raise_failed _ g.St.Store.layout _ _ c.args.self.now.generation _ _ _ _ _ (sym c.in_use.ensures ∙ c.if-not-in_use.false)
    (subst (λ r. SideServes g.St.Device.Disk.tells g.St.Store.layout c.args.self.now.node None (Ok r) (of c.args.self.now.first)
    (of c.get.new.self))
    c.in-None.is c.in_ok-found.ensures.serves) c.in_err-self-in-None.ensures)

pub returns-in_ok-self-in-None : goal.returns-in_ok-self-in-None
returns-in_ok-self-in-None g c =
    let of = side_seen g.St.Store.seen (disk_seen g.St.Device.Disk.counts g.St.Device.Disk.told g.St.Device.Disk.due) in
    first_left _ g.St.Store.layout _ _ c.args.self.now.generation _ _ _ _ _ c.requires.ready (sym c.in_use.ensures ∙ c.if-not-in_use.false)
    (subst (λ r. SideServes g.St.Device.Disk.tells g.St.Store.layout c.args.self.now.node None (Ok r) (of c.args.self.now.first)
    (of c.get.new.self))
    c.in-None.is c.in_ok-found.ensures.serves) c.in_ok-self-in-None.ensures
