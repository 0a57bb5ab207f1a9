use Rattle.std.proofs.Common.{sym, subst, ◌<◌, ◌^◌}
use Rattle.std.specs.Prelude.{Some, Ok}
use Rattle.std.proofs.lemmas.Result.{err_from_is_err_and}
use Rattle.std.specs.Int.{w32, to_be_bytes}
use Rattle.passive_store.specs.Kept.{reserved_uid}
use Rattle.passive_store.specs.Seen.{asked, disk_seen}
use Rattle.twin_store.specs.Sides.{SideServes, side_seen}
use Rattle.twin_store.proofs.Raising.{raise_refused, raised, raise_failed}
use Rattle.twin_store.proofs.generations.raise.Goals as goal

pub returns-in_err-put_generation : goal.returns-in_err-put_generation
returns-in_err-put_generation g c =
    let p = err_from_is_err_and c.from_residual.result c.from_residual.ensures.1 in
    rw (p.1, p.2) (raise_refused _ _ _ c.args.generation c.in-Some.next _ _ _ c.in-Some.ensures.1
    (subst (λ k. k < 2 ^ 32) (sym c.in-Some.ensures.1) c.in-Some.ensures.0) c.in_err-put_generation.ensures)

pub returns-in-Some-2 : goal.returns-in-Some-2
returns-in-Some-2 g c =
    let of = side_seen g.St.Store.seen (disk_seen g.St.Device.Disk.counts g.St.Device.Disk.told g.St.Device.Disk.due) in
    raised _ _ _ c.args.generation c.in-Some.next c.in-Some-2.field-0 _ _ c.in-Some.ensures.1
    (subst (λ k. k < 2 ^ 32) (sym c.in-Some.ensures.1) c.in-Some.ensures.0)
    (subst (λ r. SideServes g.St.Device.Disk.tells g.St.Store.layout c.args.node
    (Some (asked (reserved_uid c.args.node) (Some (to_be_bytes w32 c.in-Some.next)))) (Ok r) (of c.args.side.now)
    (of c.put_generation.new.side)) c.in-Some-2.is c.in_ok-put_generation.ensures)

pub returns-in-None : goal.returns-in-None
returns-in-None g c =
    let of = side_seen g.St.Store.seen (disk_seen g.St.Device.Disk.counts g.St.Device.Disk.told g.St.Device.Disk.due) in
    raise_failed _ _ _ c.args.generation c.in-Some.next _ _ c.in-Some.ensures.1
    (subst (λ k. k < 2 ^ 32) (sym c.in-Some.ensures.1) c.in-Some.ensures.0)
    (subst (λ r. SideServes g.St.Device.Disk.tells g.St.Store.layout c.args.node
    (Some (asked (reserved_uid c.args.node) (Some (to_be_bytes w32 c.in-Some.next)))) (Ok r) (of c.args.side.now)
    (of c.put_generation.new.side)) c.in-None.is c.in_ok-put_generation.ensures)
