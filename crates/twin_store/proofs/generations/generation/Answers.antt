use Rattle.std.proofs.Common.{ap, subst, ◌∙◌}
use Rattle.std.specs.Prelude.{List, ℕ, Option, Some, None, Ok}
use Rattle.std.specs.FinMap as map
use Rattle.capability.specs.declared.Uid.{Uid}
use Rattle.passive_store.specs.Seen.{disk_seen}
use Rattle.twin_store.specs.Vouched.{generation_by}
use Rattle.twin_store.specs.Serving.{IfFound}
use Rattle.twin_store.specs.Sides.{SideServes, side_seen, bodies_on}
use Rattle.twin_store.proofs.Raising.{read_there}
use Rattle.twin_store.proofs.generations.generation.Goals as goal

pub returns-in-Some-Some : goal.returns-in-Some-Some
returns-in-Some-Some g c =
    let of = side_seen g.St.Store.seen (disk_seen g.St.Device.Disk.counts g.St.Device.Disk.told g.St.Device.Disk.due) in
    let old = of c.args.side.now in
    let is = c.in-Some-Some.is ∙ ap (λ (d : Option (List ℕ)). Some d) c.in-Some-Some.field-0-is in
    read_there g.St.Device.Disk.tells g.St.Store.layout c.args.node c.number_of.result (Some c.in-Some-Some.body) old (of c.get.new.self)
    (subst (λ r. SideServes g.St.Device.Disk.tells g.St.Store.layout c.args.node None (Ok r) old (of c.get.new.self)) is
    c.in_ok-get.ensures.serves)
    (λ so on. subst (λ (u : Uid). IfFound (Ok (Some (Some c.in-Some-Some.body))) (map.get (bodies_on old) u)) c.reserved.ensures
    (subst (λ r. IfFound (Ok r) (map.get (bodies_on old) c.reserved.result)) is (c.in_ok-get.ensures.found so on)))
    (c.number_of.ensures ∙ ap (λ (b : List ℕ). generation_by (Some b)) c.as_slice.ensures)
