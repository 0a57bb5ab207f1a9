use Rattle.std.proofs.Common.{◌≤◌, ◌++◌, map, sym, subst, ◌∙◌, ap}
use Rattle.std.specs.List.{filter_map}
use Rattle.std.specs.Vec.Iter.{into_iter_items}
use Rattle.std.proofs.lemmas.List.{append-nil}
use Rattle.passive_store.specs.Seen.{disk_seen}
use Rattle.eden_world.specs.Seated.{shown_in}
use Rattle.eden_world.proofs.Closing.{as-many-given, given, nothing-left}
use Rattle.eden_world.proofs.World.close.Goals as goal

pub returns-clause-disks : goal.returns-clause-disks
returns-clause-disks g c =
    let look = disk_seen g.St.Device.Disk.counts g.St.Device.Disk.told g.St.Device.Disk.due in
    let at = c.loop-seat in
    let empty = nothing-left (into_iter_items at.seat-iterator) (sym at.invariant.counted ∙ c.in-None.ensures.steps.0) in
    given g.St.Store.seen look c.args.self at.disks.items
    (sym (append-nil (map look at.disks.items))
    ∙ ap (λ l. map look at.disks.items ++ filter_map (shown_in g.St.Store.seen look) l) (sym empty) ∙ at.invariant.disks)
    c.requires.seated.seated

pub returns-clause-few : goal.returns-clause-few
returns-clause-few g c =
    let look = disk_seen g.St.Device.Disk.counts g.St.Device.Disk.told g.St.Device.Disk.due in
    let at = c.loop-seat in
    let empty = nothing-left (into_iter_items at.seat-iterator) (sym at.invariant.counted ∙ c.in-None.ensures.steps.0) in
    subst (λ m. m ≤ 8) (sym (as-many-given g.St.Store.seen look c.args.self at.disks.items
    (sym (append-nil (map look at.disks.items))
    ∙ ap (λ l. map look at.disks.items ++ filter_map (shown_in g.St.Store.seen look) l) (sym empty) ∙ at.invariant.disks)
    c.requires.seated)) c.requires.seated.places.seats
