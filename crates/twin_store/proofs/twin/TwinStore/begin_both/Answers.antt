use Rattle.std.proofs.Common.{sym, subst, ◌∙◌, inl, inr}
use Rattle.std.specs.Prelude.{Some, None, Ok}
use Rattle.std.specs.Int.{w32, to_be_bytes}
use Rattle.std.proofs.lemmas.Result.{err_from_is_err_and}
use Rattle.passive_store.specs.Seen.{asked, disk_seen}
use Rattle.passive_store.specs.Kept.{reserved_uid}
use Rattle.twin_store.specs.Sides.{SideServes, side_seen}
use Rattle.twin_store.specs.Twins.{pair, IsBrought, Levels}
use Rattle.twin_store.proofs.Bringing.{begun_without, begun_refused, begun_alone, begun_unput, begun_both}
use Rattle.twin_store.proofs.twin.TwinStore.begin_both.Goals as goal

pub returns-then-not-in_use-clause-levels : goal.returns-then-not-in_use-clause-levels
returns-then-not-in_use-clause-levels g c = λ so h.
    let of = side_seen g.St.Store.seen (disk_seen g.St.Device.Disk.counts g.St.Device.Disk.told g.St.Device.Disk.due) in
    subst (λ k. Levels {T = Unit {0}} g.St.Store.layout (Ok tt)
    (pair c.args.self.now.node k (of c.args.self.now.first) (of c.args.self.now.second))
    (pair c.args.self.now.node k (of c.args.self.now.first) (of c.args.self.now.second))) (sym c.requires.none)
    (begun_without g.St.Device.Disk.tells g.St.Store.layout c.args.self.now.node so (of c.args.self.now.first) (of c.args.self.now.second)
    (subst (λ k. IsBrought g.St.Store.layout (pair c.args.self.now.node k (of c.args.self.now.first) (of c.args.self.now.second)))
    c.requires.none h)
    (inl (sym c.in_use.ensures ∙ c.if-not-in_use.true)))

pub returns-then-not-in_use-2-clause-levels : goal.returns-then-not-in_use-2-clause-levels
returns-then-not-in_use-2-clause-levels g c = λ so h.
    let of = side_seen g.St.Store.seen (disk_seen g.St.Device.Disk.counts g.St.Device.Disk.told g.St.Device.Disk.due) in
    subst (λ k. Levels {T = Unit {0}} g.St.Store.layout (Ok tt)
    (pair c.args.self.now.node k (of c.args.self.now.first) (of c.args.self.now.second))
    (pair c.args.self.now.node k (of c.args.self.now.first) (of c.args.self.now.second))) (sym c.requires.none)
    (begun_without g.St.Device.Disk.tells g.St.Store.layout c.args.self.now.node so (of c.args.self.now.first) (of c.args.self.now.second)
    (subst (λ k. IsBrought g.St.Store.layout (pair c.args.self.now.node k (of c.args.self.now.first) (of c.args.self.now.second)))
    c.requires.none h)
    (inr (sym c.in_use-2.ensures ∙ c.if-not-in_use-2.true)))

pub returns-in_err-put_generation-clause-levels : goal.returns-in_err-put_generation-clause-levels
returns-in_err-put_generation-clause-levels g c = λ so h.
    let of = side_seen g.St.Store.seen (disk_seen g.St.Device.Disk.counts g.St.Device.Disk.told g.St.Device.Disk.due) in
    let p = err_from_is_err_and c.from_residual.result c.from_residual.ensures.1 in
    rw (p.1, p.2, c.requires.none)
    (begun_refused g.St.Device.Disk.tells g.St.Store.layout c.args.self.now.node so (of c.args.self.now.first)
    (of c.args.self.now.second)
    (subst (λ k. IsBrought g.St.Store.layout (pair c.args.self.now.node k (of c.args.self.now.first) (of c.args.self.now.second)))
    c.requires.none h)
    (sym c.in_use.ensures ∙ c.if-not-in_use.false) (sym c.in_use-2.ensures ∙ c.if-not-in_use-2.false) _ (of c.put_generation.new.side)
    c.in_err-put_generation.ensures)

pub returns-in_err-put_generation-in-Some-clause-levels : goal.returns-in_err-put_generation-in-Some-clause-levels
returns-in_err-put_generation-in-Some-clause-levels g c = λ so h.
    let of = side_seen g.St.Store.seen (disk_seen g.St.Device.Disk.counts g.St.Device.Disk.told g.St.Device.Disk.due) in
    let p = err_from_is_err_and c.from_residual-in_err-put_generation-in-Some.result
    c.from_residual-in_err-put_generation-in-Some.ensures.1 in
    let s = (subst (λ r. SideServes g.St.Device.Disk.tells g.St.Store.layout c.args.self.now.node
    (Some (asked (reserved_uid c.args.self.now.node) (Some (to_be_bytes w32 1)))) (Ok r) (of c.args.self.now.second)
    (of c.put_generation.new.side))
    c.in-Some.is c.in_ok-put_generation.ensures) in
    rw (p.1, p.2, c.requires.none)
    (begun_unput g.St.Device.Disk.tells g.St.Store.layout c.args.self.now.node so (of c.args.self.now.first) (of c.args.self.now.second)
    (subst (λ k. IsBrought g.St.Store.layout (pair c.args.self.now.node k (of c.args.self.now.first) (of c.args.self.now.second)))
    c.requires.none h)
    (sym c.in_use.ensures ∙ c.if-not-in_use.false) (sym c.in_use-2.ensures ∙ c.if-not-in_use-2.false) (Some tt)
    (of c.put_generation.new.side) s
    _ (of c.put_generation-in-Some.new.side) s.used c.in_err-put_generation-in-Some.ensures)

pub returns-in_ok-put_generation-in-Some-clause-levels : goal.returns-in_ok-put_generation-in-Some-clause-levels
returns-in_ok-put_generation-in-Some-clause-levels g c = λ so h.
    let of = side_seen g.St.Store.seen (disk_seen g.St.Device.Disk.counts g.St.Device.Disk.told g.St.Device.Disk.due) in
    let s = (subst (λ r. SideServes g.St.Device.Disk.tells g.St.Store.layout c.args.self.now.node
    (Some (asked (reserved_uid c.args.self.now.node) (Some (to_be_bytes w32 1)))) (Ok r) (of c.args.self.now.second)
    (of c.put_generation.new.side))
    c.in-Some.is c.in_ok-put_generation.ensures) in
    subst (λ k. Levels {T = Unit {0}} g.St.Store.layout (Ok tt)
    (pair c.args.self.now.node k (of c.args.self.now.first) (of c.args.self.now.second))
    (pair c.args.self.now.node 1 (of c.put_generation-in-Some.new.side) (of c.put_generation.new.side))) (sym c.requires.none)
    (begun_both g.St.Device.Disk.tells g.St.Store.layout c.args.self.now.node so (of c.args.self.now.first) (of c.args.self.now.second)
    (subst (λ k. IsBrought g.St.Store.layout (pair c.args.self.now.node k (of c.args.self.now.first) (of c.args.self.now.second)))
    c.requires.none h)
    (sym c.in_use.ensures ∙ c.if-not-in_use.false) (sym c.in_use-2.ensures ∙ c.if-not-in_use-2.false) (Some tt)
    (of c.put_generation.new.side) s
    c.in_ok-put_generation-in-Some.field-0 (of c.put_generation-in-Some.new.side) s.used c.in_ok-put_generation-in-Some.ensures)

pub returns-in-None-clause-levels : goal.returns-in-None-clause-levels
returns-in-None-clause-levels g c = λ so h.
    let of = side_seen g.St.Store.seen (disk_seen g.St.Device.Disk.counts g.St.Device.Disk.told g.St.Device.Disk.due) in
    let s = (subst (λ r. SideServes g.St.Device.Disk.tells g.St.Store.layout c.args.self.now.node
    (Some (asked (reserved_uid c.args.self.now.node) (Some (to_be_bytes w32 1)))) (Ok r) (of c.args.self.now.second)
    (of c.put_generation.new.side))
    c.in-None.is c.in_ok-put_generation.ensures) in
    subst (λ k. Levels {T = Unit {0}} g.St.Store.layout (Ok tt)
    (pair c.args.self.now.node k (of c.args.self.now.first) (of c.args.self.now.second))
    (pair c.args.self.now.node 1 (of c.args.self.now.first) (of c.put_generation.new.side))) (sym c.requires.none)
    (begun_alone g.St.Device.Disk.tells g.St.Store.layout c.args.self.now.node so (of c.args.self.now.first) (of c.args.self.now.second)
    (subst (λ k. IsBrought g.St.Store.layout (pair c.args.self.now.node k (of c.args.self.now.first) (of c.args.self.now.second)))
    c.requires.none h)
    (sym c.in_use.ensures ∙ c.if-not-in_use.false) (sym c.in_use-2.ensures ∙ c.if-not-in_use-2.false) None (of c.put_generation.new.side) s
    s.used)
