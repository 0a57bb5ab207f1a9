use Rattle.std.proofs.Common.{sym, ap, ◌∙◌}
use Rattle.std.specs.Prelude.{is_some}
use Rattle.std.specs.FinMap as map
use Rattle.std.proofs.lemmas.Result.{err_from_is_err_and}
use Rattle.capability.specs.declared.Uid.{Uid}
use Rattle.passive_store.specs.Seen.{disk_seen}
use Rattle.twin_store.specs.Sides.{side_seen, bodies_on}
use Rattle.twin_store.proofs.Raising.{begin_refused, begin_served}
use Rattle.twin_store.proofs.generations.begin_filling.Goals as goal

pub returns-in_err-put_generation-clause-begins : goal.returns-in_err-put_generation-clause-begins
returns-in_err-put_generation-clause-begins g c = λ so.
    let of = side_seen g.St.Store.seen (disk_seen g.St.Device.Disk.counts g.St.Device.Disk.told g.St.Device.Disk.due) in
    let p = err_from_is_err_and c.from_residual.result c.from_residual.ensures.1 in
    rw (p.1, p.2) (begin_refused _ g.St.Store.layout c.args.node _ (of c.args.side.now) (of c.put_generation.new.side)
    c.in_err-put_generation.ensures so
    (λ on. ap (λ (u : Uid). is_some (map.get (bodies_on (of c.args.side.now)) u)) (sym c.reserved.ensures)
    ∙ (sym (c.holds.ensures so on) ∙ c.if-not-holds.true)))

pub returns-in_ok-put_generation-clause-begins : goal.returns-in_ok-put_generation-clause-begins
returns-in_ok-put_generation-clause-begins g c = λ so.
    let of = side_seen g.St.Store.seen (disk_seen g.St.Device.Disk.counts g.St.Device.Disk.told g.St.Device.Disk.due) in
    begin_served _ g.St.Store.layout c.args.node c.in_ok-put_generation.field-0 (of c.args.side.now) (of c.put_generation.new.side)
    c.in_ok-put_generation.ensures so
    (λ on. ap (λ (u : Uid). is_some (map.get (bodies_on (of c.args.side.now)) u)) (sym c.reserved.ensures)
    ∙ (sym (c.holds.ensures so on) ∙ c.if-not-holds.true))
