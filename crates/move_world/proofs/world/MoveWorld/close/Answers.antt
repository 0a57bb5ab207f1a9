use Rattle.std.proofs.Common.{◌++◌, map, sym, ◌∙◌, ap}
use Rattle.std.specs.List.{filter_map}
use Rattle.std.specs.Vec.Iter.{into_iter_items}
use Rattle.std.proofs.lemmas.List.{append-nil}
use Rattle.passive_store.specs.Seen.{disk_seen}
use Rattle.move_world.specs.Disks.{shown_in}
use Rattle.move_world.specs.Kept.{rows}
use Rattle.move_world.proofs.Beginning.{nothing_left, eight_given}
use Rattle.move_world.proofs.Beginning.{given_disks}
use Rattle.move_world.proofs.world.MoveWorld.close.Goals as goal

pub returns-clause-disks : goal.returns-clause-disks
returns-clause-disks g c =
    let look = disk_seen g.St.Device.Disk.counts g.St.Device.Disk.told g.St.Device.Disk.due in
    let at = c.loop-seat in
    let empty = nothing_left (into_iter_items at.seat-iterator) (sym at.invariant.counted ∙ c.in-None.ensures.steps.0) in
    sym (append-nil (map look at.disks.items))
    ∙ ap (λ l. map look at.disks.items ++ filter_map (shown_in g.St.Store.seen look) l) (sym empty) ∙ at.invariant.disks

pub returns-clause-eight : goal.returns-clause-eight
returns-clause-eight g c =
    let look = disk_seen g.St.Device.Disk.counts g.St.Device.Disk.told g.St.Device.Disk.due in
    let at = c.loop-seat in
    let empty = nothing_left (into_iter_items at.seat-iterator) (sym at.invariant.counted ∙ c.in-None.ensures.steps.0) in
    eight_given g.St.Store.seen look c.args.self.seats.items (rows c.args.self.letters) at.disks.items c.requires.world
    (sym (append-nil (map look at.disks.items))
    ∙ ap (λ l. map look at.disks.items ++ filter_map (shown_in g.St.Store.seen look) l) (sym empty) ∙ at.invariant.disks)

pub returns-clause-counts : goal.returns-clause-counts
returns-clause-counts g c =
    let look = disk_seen g.St.Device.Disk.counts g.St.Device.Disk.told g.St.Device.Disk.due in
    let at = c.loop-seat in
    let empty = nothing_left (into_iter_items at.seat-iterator) (sym at.invariant.counted ∙ c.in-None.ensures.steps.0) in
    given_disks g.St.Store.seen look c.args.self.seats.items (rows c.args.self.letters) at.disks.items c.requires.world
    (sym (append-nil (map look at.disks.items))
    ∙ ap (λ l. map look at.disks.items ++ filter_map (shown_in g.St.Store.seen look) l) (sym empty) ∙ at.invariant.disks)
