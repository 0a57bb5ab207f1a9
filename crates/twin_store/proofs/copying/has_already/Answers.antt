use Rattle.std.proofs.Common.{sym, ap, subst, ◌∙◌}
use Rattle.std.specs.Prelude.{List, ℕ, Option, Some, None, Ok}
use Rattle.std.specs.FinMap as map
use Rattle.std.proofs.lemmas.Slice.Eq.{slice_eq-Decides}
use Rattle.std.proofs.lemmas.Bool.Decides.{Decides-eqb}
use Rattle.passive_store.specs.Seen.{disk_seen}
use Rattle.twin_store.specs.Serving.{IfFound}
use Rattle.twin_store.specs.Sides.{SideServes, side_seen, bodies_on}
use Rattle.twin_store.proofs.Filling.{looks_found}
use Rattle.twin_store.proofs.copying.has_already.Goals as goal

pub returns-in-Some-Some-clause-looks : goal.returns-in-Some-Some-clause-looks
returns-in-Some-Some-clause-looks g c = λ so.
    let of = side_seen g.St.Store.seen (disk_seen g.St.Device.Disk.counts g.St.Device.Disk.told g.St.Device.Disk.due) in
    let old = of c.args.target.now in
    let is = c.in-Some-Some.is ∙ ap (λ (d : Option (List ℕ)). Some d) c.in-Some-Some.field-0-is in
    looks_found g.St.Device.Disk.tells g.St.Store.layout c.args.node c.args.uid c.args.body.now (Some (Some c.in-Some-Some.found))
    c.eq.result old (of c.get.new.self)
    (subst (λ r. SideServes g.St.Device.Disk.tells g.St.Store.layout c.args.node None (Ok r) old (of c.get.new.self)) is
    c.in_ok-found.ensures.serves) so
    (λ same on. sym (subst (λ r. IfFound (Ok r) (map.get (bodies_on old) c.args.uid)) is (c.in_ok-found.ensures.found so on))
    ∙ ap (λ (b : List ℕ). Some b) (sym c.as_slice.ensures
    ∙ ((slice_eq-Decides Decides-eqb _ _ _ c.eq.ensures).0 same ∙ c.as_slice-in-Some-Some.ensures)))
