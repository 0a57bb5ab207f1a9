use Rattle.std.proofs.Common.{ap, subst, ◌∙◌}
use Rattle.std.specs.Prelude.{List, ℕ, Option, Some, None, Ok}
use Rattle.std.specs.FinMap as map
use Rattle.passive_store.specs.Seen.{disk_seen}
use Rattle.twin_store.specs.Serving.{IfFound}
use Rattle.twin_store.specs.Sides.{SideServes, side_seen, bodies_on}
use Rattle.twin_store.proofs.Alike.{looks_both}
use Rattle.twin_store.proofs.comparing.has_same.Goals as goal

pub returns-in-Some-Some-clause-looks : goal.returns-in-Some-Some-clause-looks
returns-in-Some-Some-clause-looks g c = λ so.
    let of = side_seen g.St.Store.seen (disk_seen g.St.Device.Disk.counts g.St.Device.Disk.told g.St.Device.Disk.due) in
    let old = of c.args.source.now in
    let is = c.in-Some-Some.is ∙ ap (λ (d : Option (List ℕ)). Some d) c.in-Some-Some.field-0-is in
    looks_both g.St.Device.Disk.tells g.St.Store.layout c.args.node c.args.uid c.in-Some-Some.body c.has_already.result old
    (of c.get.new.self) (of c.args.target.now) (of c.has_already.new.target)
    (subst (λ r. SideServes g.St.Device.Disk.tells g.St.Store.layout c.args.node None (Ok r) old (of c.get.new.self)) is
    c.in_ok-body.ensures.serves) so
    (λ on. subst (λ r. IfFound (Ok r) (map.get (bodies_on old) c.args.uid)) is (c.in_ok-body.ensures.found so on))
    (c.has_already.ensures.looks so)
