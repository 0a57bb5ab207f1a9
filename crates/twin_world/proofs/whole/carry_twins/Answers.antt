use Rattle.std.proofs.Common.{◌≡◌, ◌∙◌, ap, sym, subst, map, length}
use Rattle.passive_store.specs.Seen.{disk_seen}
use Rattle.twin_world.specs.Disks.{KeepNothing, CanRise}
use Rattle.twin_world.specs.View.{entry_of}
use Rattle.twin_world.specs.Worlds.{standings}
use Rattle.twin_world.specs.declared.run.Twinned.{Twinned}
use Rattle.twin_world.proofs.Counting.{all-over, all-counted}
use Rattle.twin_world.proofs.whole.carry_twins.Goals as goal

pub returns-clause-legal : goal.returns-clause-legal
returns-clause-legal g c = λ so l z none can.
    let look = disk_seen g.St.Device.Disk.counts g.St.Device.Disk.told g.St.Device.Disk.due in
    let same : map look c.replace.result.items ≡ map look c.args.disks.now.items = ap (λ d. map look d.items) c.replace.ensures.value in
    c.told_run-done.ensures.legal so l z
    (c.in-Ok.ensures.rise (length c.args.script.commands.items)
    (subst (CanRise (length c.args.script.commands.items)) (sym same) can))
    (c.in-Ok.ensures.blank (subst (KeepNothing g.St.Store.layout) (sym same) none))

pub returns-clause-runs : goal.returns-clause-runs
returns-clause-runs g c =
    let look = disk_seen g.St.Device.Disk.counts g.St.Device.Disk.told g.St.Device.Disk.due in
    all-over g.St.Device.Disk.tells g.St.Store.layout (λ (done : Twinned). map entry_of done.log.entries.items) c.told_run-done.result
    (standings g.St.Store.seen look c.in-Ok.world.places.items) (standings g.St.Store.seen look c.told_run-done.new.world.places.items) _ _
    c.in-Ok.ensures.world c.told_run-done.ensures.world
    (c.in-Ok.ensures.stand ∙ ap (λ d. map look d.items) c.replace.ensures.value) (sym c.close.ensures.given) c.told_run-done.ensures.runs

pub returns-clause-counts : goal.returns-clause-counts
returns-clause-counts g c =
    let look = disk_seen g.St.Device.Disk.counts g.St.Device.Disk.told g.St.Device.Disk.due in
    all-counted g.St.Device.Disk.tells g.St.Store.layout (λ (done : Twinned). map entry_of done.log.entries.items) c.told_run-done.result
    _ _
    (all-over g.St.Device.Disk.tells g.St.Store.layout (λ (done : Twinned). map entry_of done.log.entries.items) c.told_run-done.result
    (standings g.St.Store.seen look c.in-Ok.world.places.items) (standings g.St.Store.seen look c.told_run-done.new.world.places.items) _ _
    c.in-Ok.ensures.world c.told_run-done.ensures.world
    (c.in-Ok.ensures.stand ∙ ap (λ d. map look d.items) c.replace.ensures.value) (sym c.close.ensures.given) c.told_run-done.ensures.runs)
